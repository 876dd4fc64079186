use Rattle.std.proofs.Common.{◌≡◌, All, vec_len, vec_capacity, length}
use Rattle.rebuild_worker.specs.Level.{IsAboveLeaves}
use Rattle.pixel_tests.proofs.levels.permits.Given as goal

abbrev pub invariant-loop-npix : goal.invariant-loop-npix
invariant-loop-npix l = (vec_len l.todo ≡ l.npix-index) × (vec_capacity l.todo ≡ length l.cells) × All (IsAboveLeaves l.fn.shape) l.todo.items
