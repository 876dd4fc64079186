use Rattle.std.proofs.Common.{◌<◌, ℕ, List, sym, subst, arith}
use Rattle.std.specs.Ordering.{nat_cmp}
use Rattle.std.proofs.lemmas.Map.Views.{All-values-insert_entry, All-keys-insert_entry}
use Rattle.tile_pixels.specs.Tile.{PixelTile, HasShape}
use Rattle.allsky_mosaic.specs.Tiles.{AreOfOrder3}
use Rattle.pixel_tests.proofs.mosaics.tiles.Goals as goal

pub loop-cell-preserved : goal.loop-cell-preserved
loop-cell-preserved c =
    let P : List (ℕ × PixelTile) → Type 0 = λ tiles. AreOfOrder3 c.args.depth c.args.n tiles in
    subst P (sym c.in_ok-put.ensures.put) (record {
      cells = All-keys-insert_entry nat_cmp _ _ (λ k. k < 768) c.loop-cell.store c.loop-cell.invariant.cells (omega arith);
      shapes = All-values-insert_entry nat_cmp _ _ (λ tile. HasShape tile c.args.depth c.args.n) c.loop-cell.store c.loop-cell.invariant.shapes c.in_ok-tile.ensures;
    })
