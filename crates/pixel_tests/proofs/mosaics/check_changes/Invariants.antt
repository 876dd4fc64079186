use Rattle.allsky_mosaic.specs.Tiles.{AreOfOrder3}
use Rattle.pixel_tests.proofs.mosaics.check_changes.Given as goal

abbrev pub invariant-loop-change : goal.invariant-loop-change
invariant-loop-change g l = AreOfOrder3 l.depth 1 l.tiles
