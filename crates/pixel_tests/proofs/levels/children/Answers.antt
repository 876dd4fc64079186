use Rattle.std.proofs.Common.{◌≡◌, ℕ, List, sym, subst}
use Rattle.std.specs.Ordering.{nat_cmp}
use Rattle.std.proofs.lemmas.Map.Views.{All-values-insert_entry}
use Rattle.tile_pixels.specs.Tile.{PixelTile}
use Rattle.rebuild_worker.specs.Level.{HaveShape}
use Rattle.pixel_tests.proofs.levels.children.Goals as goal

pub loop-npix-preserved : goal.loop-npix-preserved
loop-npix-preserved c =
    let P : List (ℕ × PixelTile) → Type 0 = λ tiles. HaveShape c.args.shape tiles in
    subst P (sym c.in_ok-put.ensures.put) (All-values-insert_entry nat_cmp _ _ (λ tile. (tile.depth ≡ c.args.shape.depth) × (tile.n ≡ c.args.shape.n)) c.loop-npix.store c.loop-npix.invariant c.in_ok-tile.ensures)
