-- What a mosaic was made of before some cells of order 3 changed.
use Rattle.std.specs.Prelude.{◌≡◌, ℕ, List, Contains}
use Rattle.parent_rule.specs.Depth.{PixelDepth}
use Rattle.leaf_store.specs.Store.{value_at}
use Rattle.tile_pixels.specs.Tile.{PixelTile}
use Rattle.allsky_mosaic.specs.Tiles.{AreOfOrder3, IsMosaic, order_3, leaf_map}

-- bytes are the mosaic of these tiles of order 3, which agree with the tiles there are now at all cells but the touched ones
pub record WasMosaicOf (depth : PixelDepth) (n : ℕ) (touched : List ℕ) (now : List (ℕ × PixelTile)) (bytes : List ℕ) (before : List (ℕ × PixelTile)) : Type 0 where
  pub tiles : AreOfOrder3 depth n before
  pub agrees : (cell : ℕ) → (Contains touched cell → ⊥) → value_at cell before ≡ value_at cell now
  pub mosaic : IsMosaic depth n (order_3 depth n) (leaf_map before) bytes

-- and that of some such tiles
abbrev pub WasMosaic : PixelDepth → ℕ → List ℕ → List (ℕ × PixelTile) → List ℕ → Type 0
WasMosaic depth n touched now bytes = (before : List (ℕ × PixelTile)) × WasMosaicOf depth n touched now bytes before
