-- The places so far are combined.
use Rattle.std.proofs.Common.{◌≡◌, ◌<◌, ℕ, Some, slice_get}
use Rattle.std.specs.List.{AllWithin}
use Rattle.parent_rule.specs.Depth.{IsNumber}
use Rattle.parent_rule.specs.Combined.{combined, square_at}
use Rattle.parent_rule.specs.declared.combine.Combine.TheVariants.{Mean}
use Rattle.tile_pixels.proofs.halved.means.Given as goal

abbrev pub invariant-loop-i : goal.invariant-loop-i
invariant-loop-i g l = record {
  combined : (k : ℕ) → k < l.i → slice_get l.out k ≡ Some (combined Mean (g.N.PixelNumber.value l.blank) (square_at l.top l.bottom k));
  numbers : AllWithin (IsNumber g.N.PixelNumber.bits) l.out 0 l.i;
}
