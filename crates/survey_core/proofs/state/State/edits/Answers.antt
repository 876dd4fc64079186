use Rattle.std.proofs.Common.{length, sym, ap, ◌∙◌, subst}
use Rattle.std.specs.Prelude.{Contains}
use Rattle.std.specs.Arc.{arc_value}
use Rattle.edit_journal.specs.Batches.{ends}
use Rattle.survey_core.specs.HistoryLaws.{all_is_end, sound_first}
use Rattle.survey_core.specs.State.{state_edits, survey_state, IsState}
use Rattle.survey_core.proofs.StateLemmas.{state_sound}
use Rattle.survey_core.proofs.state.State.edits.Goals as goal

sound : (c : goal.After-len) → IsState c.args.self.now
sound c = state_sound c.args.self.now c.self.inside.journal (arc_value c.self.inside.generation) c.self.view_is c.self.invariant c.len.ensures.journal

pub returns-clause-whole : goal.returns-clause-whole
returns-clause-whole c =
    let is = c.len.ensures.count ∙ ap (λ s. length (state_edits s)) c.self.view_is in
    subst (Contains (ends c.args.self.now.batches)) (sym is) (all_is_end c.args.self.now.batches)

pub returns-clause-first : goal.returns-clause-first
returns-clause-first c = λ none.
    sound_first (survey_state c.args.self.now) (sound c).sound (ap (λ s. length (state_edits s)) (sym c.self.view_is) ∙ sym c.len.ensures.count ∙ none)

pub returns-clause-state : goal.returns-clause-state
returns-clause-state c = sound c
