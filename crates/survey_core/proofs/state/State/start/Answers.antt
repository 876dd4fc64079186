use Rattle.std.proofs.Common.{ap, ◌∙◌}
use Rattle.std.specs.Arc.{arc_value}
use Rattle.survey_core.proofs.StateLemmas.{kept_first}
use Rattle.survey_core.proofs.state.State.start.Goals as goal

pub invariant_of-result : goal.invariant_of-result
invariant_of-result c =
    let started = c.in_ok-journal.ensures.started in
    kept_first c.in_ok-journal.journal (arc_value c.args.generation)
    (ap (λ j. j.shape) started ∙ c.shape.ensures.shape ∙ ap (λ conf. conf.shape) (c.deref-3.ensures ∙ c.conf.ensures.conf) ∙ ap (λ g. g.conf.shape) c.deref-2.ensures)
    (ap (λ j. j.opening) started ∙ c.in_ok-leaves.ensures.same ∙ c.leaves.ensures.leaves ∙ ap (λ g. g.leaves) c.deref.ensures)
    (ap (λ j. j.batches) started)
    c.requires.first
