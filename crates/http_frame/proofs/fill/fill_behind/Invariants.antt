use Rattle.std.proofs.Common.{◌≡◌, ◌-◌, ◌≤◌, length, take}
use Rattle.http_frame.specs.Fill.{Takes}
use Rattle.http_frame.specs.Frame.{IsShort}
use Rattle.http_frame.proofs.ReadingSteps.{Filling}
use Rattle.http_frame.proofs.fill.fill_behind.Given as goal

abbrev pub invariant-loop-at : goal.invariant-loop-at
invariant-loop-at g l = record {
  within : l.at ≤ length l.out;
  taken : Takes (take l.start l.fn.out) (take l.at l.out) (g.S.Source.left l.fn.src) (g.S.Source.left l.src);
  filling : Filling g.S.Source.left g.S.Source.readings (IsShort (length l.fn.out)) (take l.start l.fn.out) (take l.at l.out) l.fn.src l.src;
  faults : g.S.Source.faults l.src ≡ g.S.Source.faults l.fn.src;
  len : length l.out ≡ length l.fn.out;
}

-- how many bytes are not filled
abbrev pub decreases-loop-at : goal.decreases-loop-at
decreases-loop-at g l = length l.out - l.at
