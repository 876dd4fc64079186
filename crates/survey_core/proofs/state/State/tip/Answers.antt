use Rattle.std.proofs.Common.{◌≡◌, ◌≤◌, length, sym, ap, ◌∙◌, subst}
use Rattle.std.specs.Arc.{arc_value}
use Rattle.survey_core.specs.State.{state_edits}
use Rattle.survey_core.proofs.StateLemmas.{tip_within}
use Rattle.survey_core.proofs.state.State.tip.Goals as goal

pub returns-clause-within : goal.returns-clause-within
returns-clause-within c =
    let is : c.prefix.result ≡ c.args.self.now.tip = c.prefix.ensures ∙ ap (λ g. g.prefix) c.deref.ensures ∙ ap (λ s. s.tip) c.self.view_is in
    subst (λ tip. tip ≤ length (state_edits c.args.self.now)) (sym is)
    (tip_within c.args.self.now c.self.inside.journal (arc_value c.self.inside.generation) c.self.view_is c.self.invariant)
