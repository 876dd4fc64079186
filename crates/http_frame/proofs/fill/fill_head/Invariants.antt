use Rattle.std.proofs.Common.{◌≡◌, ◌-◌, ◌≤◌, ◌⊎◌, length}
use Rattle.memchr.specs.Find.{OccursAt, Nowhere}
use Rattle.survey_link.specs.Inbox.{held, size}
use Rattle.http_frame.specs.Next.{NeedsMore, head_end, most_head}
use Rattle.http_frame.specs.Fill.{Takes}
use Rattle.http_frame.proofs.ReadingSteps.{Filling}
use Rattle.http_frame.proofs.fill.fill_head.Given as goal

abbrev pub invariant-loop-length : goal.invariant-loop-length
invariant-loop-length g l = record {
  searched : l.searched ≤ length (held l.buffer);
  none : Nowhere (OccursAt (held l.buffer) head_end) 0 (l.searched - 3);
  taken : Takes (held l.initial.buffer) (held l.buffer) (g.S.Source.left l.initial.src) (g.S.Source.left l.src);
  filling : Filling g.S.Source.left g.S.Source.readings NeedsMore (held l.initial.buffer) (held l.buffer) l.initial.src l.src;
  untouched : (NeedsMore (held l.initial.buffer) → ⊥) → l.src ≡ l.initial.src;
  faults : g.S.Source.faults l.src ≡ g.S.Source.faults l.initial.src;
  places : (l.buffer.start ≡ l.buffer.end) ⊎ (l.buffer.end ≤ most_head);
  size : size l.buffer ≡ size l.initial.buffer;
}

-- how many bytes a head may still have
abbrev pub decreases-loop-length : goal.decreases-loop-length
decreases-loop-length g l = most_head - length (held l.buffer)
