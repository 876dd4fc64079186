use Rattle.std.proofs.Common.{◌∙◌}
use Rattle.std.specs.Arc.{arc_value}
use Rattle.past_reads.proofs.PastLemmas.{so_far_begin}
use Rattle.past_reads.proofs.past.Past.base.Goals as goal

pub loop-entry-init : goal.loop-entry-init
loop-entry-init c = record {
  can_next = tt;
  is_finite = tt;
  so_far = so_far_begin (λ generation. arc_value generation) c.args.self.now (arc_value c.self.inside.conf) c.self.inside.journal c.self.inside.opening c.self.inside.cache.entries c.self.inside.cache.cap c.args.k
      c.self.view_is c.self.invariant c.as_ref-best.result c.into_iter-entry-iterator.result c.as_ref-best.ensures.value (c.into_iter-entry-iterator.ensures.into_iter_gives ∙ c.iter-entry-items.ensures.rest);
}
