use Rattle.std.proofs.Common.{ℕ, ◌<◌, List, All, sym, subst, arith}
use Rattle.std.specs.Map.{keys_of}
use Rattle.std.specs.Ordering.{nat_cmp}
use Rattle.std.proofs.lemmas.Map.Views.{All-keys-insert_entry}
use Rattle.healpix_nested.specs.Cells.{cell_count}
use Rattle.tile_pixels.specs.Tile.{PixelTile}
use Rattle.edit_tests.proofs.covers.store_of.Goals as goal

pub loop-leaf-preserved : goal.loop-leaf-preserved
loop-leaf-preserved c =
    let P : List (ℕ × PixelTile) → Type 0 = λ tiles. All (λ leaf. leaf < cell_count c.args.top) (keys_of tiles) in
    subst P (sym c.in_ok-put.ensures.put) (All-keys-insert_entry nat_cmp _ _ (λ leaf. leaf < cell_count c.args.top) c.loop-leaf.store c.loop-leaf.invariant (omega arith))
