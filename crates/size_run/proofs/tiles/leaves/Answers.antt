use Rattle.std.proofs.Common.{ℕ, ◌<◌, List, All, sym, subst}
use Rattle.std.specs.Map.{keys_of, values_of}
use Rattle.std.specs.Ordering.{nat_cmp}
use Rattle.std.proofs.lemmas.Map.Views.{All-values-insert_entry, All-keys-insert_entry}
use Rattle.healpix_nested.specs.Cells.{cell_count}
use Rattle.tile_pixels.specs.Tile.{PixelTile}
use Rattle.edit_journal.specs.Leaves.{FitsTile}
use Rattle.size_run.proofs.tiles.leaves.Goals as goal

pub loop-i-preserved : goal.loop-i-preserved
loop-i-preserved c =
    let Cells : List (ℕ × PixelTile) → Type 0 = λ leaves. All (λ leaf. leaf < cell_count c.args.shape.top) (keys_of leaves) in
    let Tiles : List (ℕ × PixelTile) → Type 0 = λ leaves. All (FitsTile c.args.shape) (values_of leaves) in
    record {
      ascending = c.in_ok-put.ensures.ascending;
      cells = subst Cells (sym c.in_ok-put.ensures.put) (All-keys-insert_entry nat_cmp _ _ (λ leaf. leaf < cell_count c.args.shape.top) c.loop-i.store c.loop-i.invariant.cells c.in_ok-leaf.ensures);
      tiles = subst Tiles (sym c.in_ok-put.ensures.put) (All-values-insert_entry nat_cmp _ _ (FitsTile c.args.shape) c.loop-i.store c.loop-i.invariant.tiles c.in_ok-tile.ensures);
    }
