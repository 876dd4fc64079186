-- The tiles of one order under an asked tile, and how many steps it takes to make it of them.
use Rattle.std.specs.Prelude.{◌≡◌, ℕ, zero, suc, ◌-◌, ◌*◌, ◌^◌, ◌&&◌, List, sum_by, count_by, Some, None, if◌then◌else◌}
use Rattle.std.specs.List.{range_with_len}
use Rattle.std.specs.Map.{lookup}
use Rattle.std.specs.BTreeMap.{is_at}
use Rattle.std.specs.Ordering.{nat_cmp}
use Rattle.healpix_nested.specs.Cells.{lies_under}
use Rattle.parent_rule.specs.Permit.{one_more}
use Rattle.pyramid_model.specs.Shape.{PyramidShape, LeafMap}
use Rattle.pyramid_model.specs.Tile.{exists, pixels}
use Rattle.tile_pixels.specs.Tile.{tile_of, PixelTile}

-- the tiles are those of order k that exist under cell npix of order
abbrev pub IsLevel : PyramidShape → LeafMap → ℕ → ℕ → ℕ → List (ℕ × PixelTile) → Type 0
IsLevel shape leaves order npix k tiles = (q : ℕ) → lookup (is_at (nat_cmp q)) tiles
    ≡ (if lies_under k q order npix && exists shape leaves k q then Some (tile_of shape leaves k q) else None)

-- how many tiles of order k exist under cell npix of order
abbrev pub tiles_under : PyramidShape → LeafMap → ℕ → ℕ → ℕ → ℕ
tiles_under shape leaves order npix k = count_by (exists shape leaves k) (range_with_len (npix * 4 ^ (k - order)) (4 ^ (k - order)))

-- how many are made for the tile of that cell: one for each tile at or under it that exists above the leaves
abbrev pub tiles_made : PyramidShape → LeafMap → ℕ → ℕ → ℕ
tiles_made shape leaves order npix = sum_by (tiles_under shape leaves order npix) (range_with_len order (shape.top - order))

-- the count of steps after so many more
abbrev pub steps_after : ℕ → ℕ → ℕ
steps_after zero count = count
steps_after (suc more) count = one_more (steps_after more count)
