use Rattle.std.proofs.Common.{ℕ, ◌≡◌, ◌*◌, ◌<◌, drop}
use Rattle.byteorder.specs.Endian.{big_number}
use Rattle.coverage_moc.proofs.written.rows_before_zero.Given as goal

abbrev pub invariant-loop-i : goal.invariant-loop-i
invariant-loop-i l = (k : ℕ) → k < l.i → big_number 8 (drop (8 * k) l.bytes) ≡ 0 → ⊥
