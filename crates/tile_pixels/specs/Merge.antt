-- The tile above four tiles: each of its cells is combined of the four cells under it. A tile that isn't given counts as
-- blank.
use Rattle.std.specs.Prelude.{◌≡◌, ℕ, zero, suc, ◌+◌, ◌*◌, ◌/◌, ◌%◌, ◌^◌, List, [], ◌∷◌, map, ℤ, true, false, Option, Some, None, slice_index_or}
use Rattle.std.specs.List.{range_with_len}
use Rattle.healpix_nested.specs.Place.{stored_z, stored_at_z}
use Rattle.parent_rule.specs.Combined.{combined}
use Rattle.parent_rule.specs.Depth.{PixelDepth}
use Rattle.pyramid_model.specs.Shape.{PyramidShape, LeafMap}
use Rattle.pyramid_model.specs.Tile.{exists, pixels}

-- the stored numbers of the four tiles, child 0 to child 3
pub record FourTiles : Type 0 where
  pub first : Option (List ℤ)
  pub second : Option (List ℤ)
  pub third : Option (List ℤ)
  pub fourth : Option (List ℤ)

-- one of them, by its number
abbrev pub child : FourTiles → ℕ → Option (List ℤ)
child tiles zero = tiles.first
child tiles (suc zero) = tiles.second
child tiles (suc (suc zero)) = tiles.third
child tiles (suc (suc (suc i))) = tiles.fourth

-- the number of cell z of a tile
abbrev pub number_of : PixelDepth → ℕ → Option (List ℤ) → ℕ → ℤ
number_of depth n None z = depth.blank
number_of depth n (Some numbers) z = slice_index_or numbers (stored_at_z n z) depth.blank

-- the number of cell z of the tile above: of cells 4z to 4z + 3 of the four tiles, counted through them
abbrev pub number_above : PixelDepth → ℕ → FourTiles → ℕ → ℤ
number_above depth n tiles z = combined depth.combine depth.blank (under 0 ∷ under 1 ∷ under 2 ∷ under 3 ∷ [])
  where
    under : ℕ → ℤ
    under j = number_of depth n (child tiles ((4 * z + j) / 4 ^ n)) ((4 * z + j) % 4 ^ n)

-- the stored numbers of the tile above
unfoldable pub merged : PixelDepth → ℕ → FourTiles → List ℤ
merged depth n tiles = map (λ s. number_above depth n tiles (stored_z n s)) (range_with_len 0 (4 ^ n))

-- a tile that is given has the pixels of the cell, and the cell has no tile where it isn't
abbrev pub Shows : PyramidShape → LeafMap → ℕ → ℕ → Option (List ℤ) → Type 0
Shows shape leaves k p None = exists shape leaves k p ≡ false
Shows shape leaves k p (Some numbers) = (exists shape leaves k p ≡ true) × (numbers ≡ pixels shape leaves k p)

-- the four tiles are those of the children of cell p of order k
pub record ShowsChildren (shape : PyramidShape) (leaves : LeafMap) (k p : ℕ) (tiles : FourTiles) : Type 0 where
  pub first : Shows shape leaves (k + 1) (4 * p) tiles.first
  pub second : Shows shape leaves (k + 1) (4 * p + 1) tiles.second
  pub third : Shows shape leaves (k + 1) (4 * p + 2) tiles.third
  pub fourth : Shows shape leaves (k + 1) (4 * p + 3) tiles.fourth
