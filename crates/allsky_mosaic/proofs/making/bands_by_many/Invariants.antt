use Rattle.allsky_mosaic.specs.Cells.{AreBands}
use Rattle.allsky_mosaic.proofs.making.bands_by_many.Given as goal

abbrev pub invariant-loop-next : goal.invariant-loop-next
invariant-loop-next g l = AreBands l.fn.form.depth l.fn.form.n l.fn.tiles 28 l.next-index l.raw.items
