use Rattle.std.proofs.Common.{◌≡◌, ◌<◌, ap, ◌∙◌, arith}
use Rattle.std.specs.Arc.{arc_value}
use Rattle.survey_core.proofs.StateLemmas.{kept_published}
use Rattle.survey_core.proofs.state.State.install.Goals as goal

pub invariant_of-result : goal.invariant_of-result
invariant_of-result c =
    let prefix : c.prefix.result ≡ (arc_value c.args.generation).prefix = c.prefix.ensures ∙ ap (λ g. g.prefix) c.deref.ensures in
    let rises : c.args.self.now.tip < (arc_value c.args.generation).prefix = omega (arith, prefix, c.tip-tip.ensures.tip) in
    kept_published c.args.self.now c.self.inside.journal c.in_ok-journal.journal (arc_value c.self.inside.generation) (arc_value c.args.generation)
    c.self.view_is c.self.invariant c.in_ok-journal.ensures c.requires.conf c.requires.whole c.requires.leaves rises
