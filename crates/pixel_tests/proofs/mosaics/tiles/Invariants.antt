use Rattle.allsky_mosaic.specs.Tiles.{AreOfOrder3}
use Rattle.pixel_tests.proofs.mosaics.tiles.Given as goal

abbrev pub invariant-loop-cell : goal.invariant-loop-cell
invariant-loop-cell l = AreOfOrder3 l.fn.depth l.n l.store
