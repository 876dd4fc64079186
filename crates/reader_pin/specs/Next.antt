-- The state after an event.
use Rattle.std.specs.Prelude.{◌≡◌, ℕ, ◌<◌, List, [], ◌∷◌, length, take, not, Contains}
use Rattle.edit_journal.specs.Edit.{LeafEdit, leaf_of}
use Rattle.edit_journal.specs.Leaves.{leaves_of}
use Rattle.edit_journal.specs.Faults.{has_leaf}
use Rattle.edit_journal.specs.Batches.{ends}
use Rattle.generation.specs.Generation.{GenerationContent}
use Rattle.survey_core.specs.History.{SurveyState, AppendsBatch}
use Rattle.survey_core.specs.State.{StateContent, state_edits, survey_state}
use Rattle.reader_pin.specs.declared.answer.Accepted.{Accepted}
use Rattle.reader_pin.specs.declared.answer.BoardRefusal.{BoardRefusal}
use Rattle.reader_pin.specs.declared.answer.BoardRefusal.TheVariants.{Fault, OutOfMemory}
use Rattle.reader_pin.specs.declared.answer.BoardBatch.{BoardBatch}
use Rattle.reader_pin.specs.declared.answer.BoardBatch.TheVariants.{Fault as Faulty, OutOfMemory as NoMemory}
use Rattle.reader_pin.specs.Answers.{IsRefused, AreRefused}

-- a state of the same survey after an event
pub record Follows (IsEvent : SurveyState → SurveyState → Type 0) (last next : StateContent) : Type 0 where
  pub conf : next.conf ≡ last.conf
  pub opening : next.opening ≡ last.opening
  pub event : IsEvent (survey_state last) (survey_state next)

-- the state after an edit, and what its board answers
pub record FollowsEdit (edit : LeafEdit) (last next : StateContent) (accepted : Accepted) : Type 0 where
  pub follows : Follows (AppendsBatch last.opening (edit ∷ [])) last next
  pub number : accepted.number ≡ length (state_edits next)
  pub created : accepted.created ≡ not (has_leaf (leaf_of edit) (leaves_of last.opening (state_edits last)))

-- the state after a batch, and how many edits it has
pub record FollowsBatch (batch : List LeafEdit) (last next : StateContent) (count : ℕ) : Type 0 where
  pub follows : Follows (AppendsBatch last.opening batch) last next
  pub number : count ≡ length (state_edits next)

-- why there is none; `OutOfMemory` says nothing
abbrev pub TellsRefusedEdit : LeafEdit → StateContent → BoardRefusal → Type 0
TellsRefusedEdit edit last (Fault fault edits) = IsRefused last.opening edit fault edits (survey_state last)
TellsRefusedEdit edit last OutOfMemory = Unit {0}

abbrev pub TellsRefusedBatch : List LeafEdit → StateContent → BoardBatch → Type 0
TellsRefusedBatch batch last (Faulty at fault edits) = AreRefused last.opening batch (record { at = at; fault = fault }) edits (survey_state last)
TellsRefusedBatch batch last NoMemory = Unit {0}

-- the generation of a longer prefix of the state's edits than the published one, which an end of its batches bounds
pub record IsPublishable (last : StateContent) (generation : GenerationContent) : Type 0 where
  pub conf : generation.conf ≡ last.conf
  pub rises : last.tip < generation.prefix
  pub whole : Contains (ends last.batches) generation.prefix
  pub leaves : generation.leaves ≡ leaves_of last.opening (take generation.prefix (state_edits last))
