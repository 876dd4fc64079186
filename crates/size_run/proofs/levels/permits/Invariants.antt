use Rattle.std.proofs.Common.{◌≡◌, All, vec_len, vec_capacity}
use Rattle.rebuild_worker.specs.Level.{IsAboveLeaves}
use Rattle.size_run.proofs.levels.permits.Given as goal

abbrev pub invariant-loop-npix : goal.invariant-loop-npix
invariant-loop-npix l = (vec_len l.todo ≡ l.npix) × (vec_capacity l.todo ≡ 70000) × All (IsAboveLeaves l.fn.shape) l.todo.items
