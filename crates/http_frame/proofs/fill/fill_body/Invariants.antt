use Rattle.std.proofs.Common.{◌≡◌, ◌-◌, ◌≤◌, ◌⊎◌, length}
use Rattle.survey_link.specs.Inbox.{held, size}
use Rattle.http_frame.specs.Fill.{Takes}
use Rattle.http_frame.specs.Frame.{IsShort}
use Rattle.http_frame.proofs.ReadingSteps.{Filling}
use Rattle.http_frame.proofs.fill.fill_body.Given as goal

abbrev pub invariant-loop-buffer : goal.invariant-loop-buffer
invariant-loop-buffer g l = record {
  taken : Takes (held l.initial.buffer) (held l.buffer) (g.S.Source.left l.initial.src) (g.S.Source.left l.src);
  filling : Filling g.S.Source.left g.S.Source.readings (IsShort l.count) (held l.initial.buffer) (held l.buffer) l.initial.src l.src;
  exact : ((held l.buffer ≡ held l.initial.buffer) × (l.src ≡ l.initial.src)) ⊎ (l.buffer.end ≤ l.end);
  untouched : l.count ≤ length (held l.initial.buffer) → l.src ≡ l.initial.src;
  faults : g.S.Source.faults l.src ≡ g.S.Source.faults l.initial.src;
  start : l.buffer.start ≡ l.initial.buffer.start;
  size : size l.buffer ≡ size l.initial.buffer;
}

-- how many bytes of the body are not held
abbrev pub decreases-loop-buffer : goal.decreases-loop-buffer
decreases-loop-buffer g l = l.count - length (held l.buffer)
