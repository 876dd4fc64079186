-- The quadrants of the tile above four tiles: each is merged from its child, or is that of a tile merged before.
use Rattle.std.specs.Prelude.{◌≡◌, ◌<◌, ℕ, List, ℤ, Option, option_map}
use Rattle.parent_rule.specs.Depth.{PixelDepth}
use Rattle.tile_pixels.specs.Merge.{FourTiles, child, merged}
use Rattle.tile_pixels.specs.Tile.{HasShape}
use Rattle.std.specs.Option.{ForSome}
use Rattle.tile_pixels.specs.declared.quadrant.Quadrant.{Quadrant}
use Rattle.tile_pixels.specs.declared.quadrant.Quadrant.TheVariants.{Merged, Kept}
use Rattle.tile_pixels.specs.declared.quadrant.Quadrants.{Quadrants}

-- numbers were merged from four tiles, of which child i has these numbers, or isn't given
pub record WasMerged (depth : PixelDepth) (n : ℕ) (numbers : List ℤ) (i : ℕ) (of : Option (List ℤ)) : Type 0 where
  pub four : FourTiles
  pub merged_of : numbers ≡ merged depth n four
  pub child_is : child four i ≡ of

-- the quadrant is that over a child with these numbers, or over one that isn't given
abbrev pub IsOver : PixelDepth → ℕ → Option (List ℤ) → Quadrant → Type 0
IsOver depth n numbers (Merged tile) = option_map (λ t. t.now.numbers) tile ≡ numbers
IsOver depth n numbers (Kept tile i) = WasMerged depth n tile.now.numbers i numbers

-- the four quadrants are those over four tiles
pub record AreOver (depth : PixelDepth) (n : ℕ) (tiles : FourTiles) (quadrants : Quadrants) : Type 0 where
  pub first : IsOver depth n tiles.first quadrants.first
  pub second : IsOver depth n tiles.second quadrants.second
  pub third : IsOver depth n tiles.third quadrants.third
  pub fourth : IsOver depth n tiles.fourth quadrants.fourth

-- its tile has that depth and 2^n columns and lines, and four quadrants
abbrev pub Fits : PixelDepth → ℕ → Quadrant → Type 0
Fits depth n (Merged tile) = ForSome tile (λ t. HasShape t.now depth n)
Fits depth n (Kept tile i) = HasShape tile.now depth n × (i < 4)
