use Rattle.rebuild_worker.specs.Level.{HaveShape}
use Rattle.pixel_tests.proofs.levels.children.Given as goal

abbrev pub invariant-loop-npix : goal.invariant-loop-npix
invariant-loop-npix l = HaveShape l.shape l.store
