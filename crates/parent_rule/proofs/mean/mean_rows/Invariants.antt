-- The places so far are combined.
use Rattle.std.proofs.Common.{◌≡◌, ◌<◌, ℕ, Some, slice_get}
use Rattle.std.specs.List.{AllWithin}
use Rattle.parent_rule.specs.Depth.{IsNumber}
use Rattle.parent_rule.specs.Combined.{combined, square_at}
use Rattle.parent_rule.proofs.mean.mean_rows.Given as goal

abbrev pub invariant-loop-i : goal.invariant-loop-i
invariant-loop-i l = record {
  combined : (k : ℕ) → k < l.i → slice_get l.out k ≡ Some (combined l.depth.combine l.depth.blank (square_at l.top l.bottom k));
  numbers : AllWithin (IsNumber l.depth.bitpix) l.out 0 l.i;
}
