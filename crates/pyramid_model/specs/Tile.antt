-- The tiles of a pyramid.
use Rattle.std.specs.Prelude.{ℕ, ◌+◌, ◌*◌, ◌^◌, List, map, ℤ, Bool}
use Rattle.std.specs.List.{list_any, range_with_len}
use Rattle.healpix_nested.specs.Cells.{lies_under}
use Rattle.healpix_nested.specs.Place.{stored_z}
use Rattle.pyramid_model.specs.Shape.{PyramidShape, LeafMap}
use Rattle.pyramid_model.specs.Value.{value}

-- tile p of order k exists where some leaf lies under its cell
abbrev pub exists : PyramidShape → LeafMap → ℕ → ℕ → Bool
exists shape leaves k p = list_any (λ leaf. lies_under shape.top leaf.0 k p) leaves

-- its stored number s: the value of the cell of order k + n that its place stands for
abbrev pub pixel_at : PyramidShape → LeafMap → ℕ → ℕ → ℕ → ℤ
pixel_at shape leaves k p s = value shape leaves (k + shape.n) (p * 4 ^ shape.n + stored_z shape.n s)

-- all its stored numbers
unfoldable pub pixels : PyramidShape → LeafMap → ℕ → ℕ → List ℤ
pixels shape leaves k p = map (pixel_at shape leaves k p) (range_with_len 0 (4 ^ shape.n))
