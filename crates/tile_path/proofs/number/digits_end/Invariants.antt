use Rattle.std.proofs.Common.{ℕ, ◌<◌, get_or}
use Rattle.std.specs.Int.{IsInRange}
use Rattle.tile_path.proofs.number.digits_end.Given as goal

abbrev pub invariant-loop-i : goal.invariant-loop-i
invariant-loop-i l = (k : ℕ) → k < l.i → IsInRange 48 57 (get_or l.text k 0)
