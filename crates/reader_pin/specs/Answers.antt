-- What the answers of a board mean.
use Rattle.std.specs.Prelude.{◌≡◌, ℕ, ◌≤◌, List, [], ◌∷◌, not, Some}
use Rattle.dirty_plan.specs.Dirty.{steps_after}
use Rattle.edit_journal.specs.Edit.{LeafEdit, leaf_of}
use Rattle.edit_journal.specs.Leaves.{LeafTiles, leaves_of}
use Rattle.edit_journal.specs.Faults.{edit_fault, batch_fault, has_leaf}
use Rattle.edit_journal.specs.declared.fault.EditFault.{EditFault}
use Rattle.edit_journal.specs.declared.fault.BatchFault.{BatchFault}
use Rattle.survey_core.specs.History.{SurveyState, edits_at, AppendsBatch}
use Rattle.reader_pin.specs.declared.answer.Accepted.{Accepted}
use Rattle.reader_pin.specs.declared.answer.BoardRefusal.{BoardRefusal}
use Rattle.reader_pin.specs.declared.answer.BoardRefusal.TheVariants.{Fault, OutOfMemory}
use Rattle.reader_pin.specs.declared.answer.BoardBatch.{BoardBatch}
use Rattle.reader_pin.specs.declared.answer.BoardBatch.TheVariants.{Fault as Faulty, OutOfMemory as NoMemory}
use Rattle.reader_pin.specs.declared.answer.Published.{Published}
use Rattle.reader_pin.specs.declared.answer.Published.TheVariants.{New, Already}
use Rattle.reader_pin.specs.Board.{BoardContent, Stays, Happens, InOne, Publishes, IsPublished, last_of, last_seen, edit_count, publish_work}

-- the batch is at the end of the last state's: one event
abbrev pub Appends : List LeafEdit → BoardContent → BoardContent → Type 0
Appends batch old new = Happens (AppendsBatch old.opening batch) old new

-- an edit is accepted: how many edits there are then, and whether its leaf was absent before it
pub record Accepts (edit : LeafEdit) (old new : BoardContent) (accepted : Accepted) : Type 0 where
  pub happens : Appends (edit ∷ []) old new
  pub number : accepted.number ≡ edit_count happens.state
  pub created : accepted.created ≡ not (has_leaf (leaf_of edit) (leaves_of old.opening (edits_at (last_of happens.before))))

-- a batch is accepted: how many edits there are then
pub record AcceptsAll (batch : List LeafEdit) (old new : BoardContent) (number : ℕ) : Type 0 where
  pub happens : Appends batch old new
  pub count : number ≡ edit_count happens.state

-- an edit, or a batch, has this fault after the edits of a state, which are so many
pub record IsRefused (opening : LeafTiles) (edit : LeafEdit) (fault : EditFault) (edits : ℕ) (state : SurveyState) : Type 0 where
  pub has : edit_fault opening (edits_at state) edit ≡ Some fault
  pub count : edit_count state ≡ edits

pub record AreRefused (opening : LeafTiles) (batch : List LeafEdit) (fault : BatchFault) (edits : ℕ) (state : SurveyState) : Type 0 where
  pub has : batch_fault opening (edits_at state) batch ≡ Some fault
  pub count : edit_count state ≡ edits

-- what a refusal says; `OutOfMemory` says nothing
abbrev pub TellsRefusal : LeafEdit → BoardContent → BoardContent → BoardRefusal → Type 0
TellsRefusal edit old new (Fault fault edits) = InOne old new (IsRefused old.opening edit fault edits)
TellsRefusal edit old new OutOfMemory = Unit {0}

abbrev pub TellsBatchRefusal : List LeafEdit → BoardContent → BoardContent → BoardBatch → Type 0
TellsBatchRefusal batch old new (Faulty at fault edits) = InOne old new (AreRefused old.opening batch (record { at = at; fault = fault }) edits)
TellsBatchRefusal batch old new NoMemory = Unit {0}

-- the first k edits were published, k at least the edits seen before; or no event was made, since all are published
abbrev pub TellsPublished : BoardContent → BoardContent → Published → Type 0
TellsPublished old new (New k) = Happens (Publishes k) old new × (edit_count (last_seen old) ≤ k)
TellsPublished old new (Already k) = Stays old new × IsPublished k (last_seen new)

-- how many steps there are after a publication, where there were so many before it and one generation was built, which is
-- published; without an event none was
abbrev pub CountsOnce : BoardContent → BoardContent → ℕ → ℕ → Published → Type 0
CountsOnce old new before after (New k) = after ≡ steps_after before (publish_work old new)
CountsOnce old new before after (Already k) = after ≡ before
