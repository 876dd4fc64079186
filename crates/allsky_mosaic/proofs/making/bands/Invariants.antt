use Rattle.allsky_mosaic.specs.Cells.{AreBands}
use Rattle.allsky_mosaic.proofs.making.bands.Given as goal

abbrev pub invariant-loop-up : goal.invariant-loop-up
invariant-loop-up l = AreBands l.form.depth l.form.n l.tiles 28 l.up l.raw.items
