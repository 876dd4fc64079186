use Rattle.std.proofs.Common.{◌-◌, List, ℕ, subst, sym}
use Rattle.allsky_mosaic.specs.Cells.{AreBands}
use Rattle.allsky_mosaic.proofs.BandLemmas.{two_runs}
use Rattle.allsky_mosaic.proofs.making.bands.Goals as goal

pub loop-up-preserved : goal.loop-up-preserved
loop-up-preserved c =
    let P : List ℕ → Type 0 = λ bytes. AreBands c.args.form.now.depth c.args.form.now.n c.args.tiles.now (28 - c.loop-up.up) 1 bytes in
    two_runs c.args.form.now.depth c.args.form.now.n 28 c.loop-up.up 1 c.args.tiles.now c.loop-up.raw.items c.deref.result.now c.extend_from_slice.new.self.items c.requires.tiles.known c.in_ok-extend_from_slice.ensures.items c.loop-up.invariant
    (subst P (sym c.deref.ensures.value) c.in_ok-next.ensures)
