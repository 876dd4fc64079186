-- Quadrants of a tile that stood over children of which some have changed.
use Rattle.std.proofs.Common.{◌≡◌, ℕ, zero, suc, ◌+◌, ◌*◌, ◌<◌, true, false, cond, List, [], Option, Some, None, refl, sym, ap, ◌∙◌, subst, subst₂, arith}
use Rattle.std.specs.Prelude.{IfSome}
use Rattle.leaf_store.specs.Store.{value_at}
use Rattle.parent_rule.specs.Depth.{PixelDepth}
use Rattle.pyramid_model.specs.Shape.{PyramidShape}
use Rattle.tile_pixels.specs.Tile.{PixelTile, HasShape}
use Rattle.tile_pixels.specs.Merge.{FourTiles, child, merged}
use Rattle.tile_pixels.specs.Quadrants.{WasMerged, AreOver}
use Rattle.tile_pixels.specs.declared.quadrant.Quadrants.{Quadrants}
use Rattle.rebuild_worker.specs.Level.{numbers_of, children_of, any_of, tile_above}
use Rattle.rebuild_worker.specs.Changed.{is_touched, StoodOver}

-- child i of the four
pub child_of : (tiles : List (ℕ × PixelTile)) (npix i : ℕ) → i < 4 → child (children_of tiles npix) i ≡ numbers_of (value_at (4 * npix + i) tiles)
child_of tiles npix zero h = let first : 4 * npix ≡ 4 * npix + 0 = omega arith in ap (λ key. numbers_of (value_at key tiles)) first
child_of tiles npix (suc zero) h = refl
child_of tiles npix (suc (suc zero)) h = refl
child_of tiles npix (suc (suc (suc zero))) h = refl
child_of tiles npix (suc (suc (suc (suc i)))) h = absurd (omega arith)

-- what a tile that is there above four tiles is
record IsAbove (shape : PyramidShape) (four : FourTiles) (tile : PixelTile) : Type 0 where
  has : HasShape tile shape.depth shape.n
  numbers : tile.numbers ≡ merged shape.depth shape.n four

is_above : (shape : PyramidShape) (four : FourTiles) (tile : PixelTile) → Some tile ≡ tile_above shape four → IsAbove shape four tile
is_above shape four tile is = elim (any_of four) as (λ b. Some tile ≡ cond b (Some (record { depth = shape.depth; n = shape.n; numbers = merged shape.depth shape.n four })) None → IsAbove shape four tile) [
  | true ↦ λ e.
      let same : tile ≡ record { depth = shape.depth; n = shape.n; numbers = merged shape.depth shape.n four } = cc in
      record { has = (ap (λ t. t.depth) same, ap (λ t. t.n) same); numbers = ap (λ t. t.numbers) same }
  | false ↦ λ e. cc
] is

-- the quadrant of a child under which no touched leaf lies
pub kept : (shape : PyramidShape) (children before : List (ℕ × PixelTile)) (touched : List ℕ) (height npix cell i : ℕ) (tile : PixelTile) → i < 4 → cell ≡ 4 * npix + i → StoodOver shape children touched height before
    → Some tile ≡ value_at npix before → is_touched touched height cell ≡ false → HasShape tile shape.depth shape.n × WasMerged shape.depth shape.n tile.numbers i (numbers_of (value_at cell children))
kept shape children before touched height npix cell i tile h at stood is clean =
    let P : Option PixelTile → Type 0 = λ found. IfSome found (λ t. Some t ≡ tile_above shape (children_of stood.was npix)) in
    let above : IsAbove shape (children_of stood.was npix) tile = is_above shape (children_of stood.was npix) tile (subst P (sym is) (stood.merged_of npix)) in (
      above.has,
      record {
        four = children_of stood.was npix;
        merged_of = above.numbers;
        child_is = child_of stood.was npix i h ∙ ap (λ key. numbers_of (value_at key stood.was)) (sym at) ∙ ap numbers_of (stood.same cell clean);
      },
    )

-- where nothing stood before
pub nothing_stood : (shape : PyramidShape) (children : List (ℕ × PixelTile)) (touched : List ℕ) (height : ℕ) → StoodOver shape children touched height []
nothing_stood shape children touched height = record { was = children; merged_of = λ cell. tt; same = λ cell clean. refl }

-- the tile that was merged of quadrants over the children of a cell, one of which is there
pub tile_is : (shape : PyramidShape) (children : List (ℕ × PixelTile)) (npix read : ℕ) (depth : PixelDepth) (n : ℕ) (quadrants : Quadrants) (tile : PixelTile) → depth ≡ shape.depth → n ≡ shape.n → read ≡ npix
    → AreOver shape.depth shape.n (children_of children read) quadrants
    → ((tiles : FourTiles) → AreOver depth n tiles quadrants → tile ≡ record { depth = depth; n = n; numbers = merged depth n tiles })
    → any_of (children_of children read) ≡ true → Some tile ≡ tile_above shape (children_of children npix)
tile_is shape children npix read depth n quadrants tile same_depth same_n same over made some =
    let is : tile ≡ record { depth = shape.depth; n = shape.n; numbers = merged shape.depth shape.n (children_of children read) } =
    subst₂ (λ (d : PixelDepth) (m : ℕ). (tiles : FourTiles) → AreOver d m tiles quadrants → tile ≡ record { depth = d; n = m; numbers = merged d m tiles }) same_depth same_n made (children_of children read) over in
    ap Some is
    ∙ ap (λ b. cond b (Some (record { depth = shape.depth; n = shape.n; numbers = merged shape.depth shape.n (children_of children read) })) None) (sym some)
    ∙ ap (λ p. tile_above shape (children_of children p)) same
