-- What is built for a publication: the generation of all edits of a state.
use Rattle.std.specs.Prelude.{◌≡◌, ℕ, ◌≤◌, length, take, Option, Some, None, Result, IfOk, OnOk}
use Rattle.dirty_plan.specs.Dirty.{work, steps_after}
use Rattle.edit_journal.specs.Leaves.{leaves_of}
use Rattle.generation.specs.Generation.{GenerationContent}
use Rattle.generation.specs.Steps.{touched}
use Rattle.survey_core.specs.State.{StateContent, state_edits}

abbrev pub whole_generation : StateContent → GenerationContent
whole_generation state = record {
  conf = state.conf;
  prefix = length (state_edits state);
  leaves = leaves_of state.opening (take (length (state_edits state)) (state_edits state));
}

-- how many cells lie over the leaves of the edits from the state's tip on
abbrev pub build_work : StateContent → ℕ
build_work state = work state.conf.shape.top state.conf.shape.low (touched (state_edits state) state.tip (length (state_edits state)))

-- the generation was built of the state, and the steps rose by just that work; or there was no memory, and they rose by at most
-- that
pub record Builds {E : Type 0} (state : StateContent) (before : ℕ) (built : Result GenerationContent E) (after : ℕ) : Type 0 where
  pub generation : IfOk built (λ generation. generation ≡ whole_generation state)
  pub counted : OnOk built (after ≡ steps_after before (build_work state))
  pub steps : after ≤ steps_after before (build_work state)
  pub never_falls : before ≤ after

-- that generation; or none, where all edits are published
abbrev pub BuildsAll : StateContent → Option GenerationContent → Type 0
BuildsAll state (Some generation) = generation ≡ whole_generation state
BuildsAll state None = state.tip ≡ length (state_edits state)
