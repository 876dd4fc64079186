-- A state as contracts see it, and what it is kept as.
use Rattle.std.specs.Prelude.{◌≡◌, ℕ, List, take, Contains}
use Rattle.survey_conf.specs.Description.{Description}
use Rattle.edit_journal.specs.Edit.{LeafEdit}
use Rattle.edit_journal.specs.Leaves.{LeafTiles, leaves_of}
use Rattle.edit_journal.specs.Batches.{edits_of, ends}
use Rattle.edit_journal.specs.Journal.{JournalContent, IsJournal, journal_edits}
use Rattle.generation.specs.Generation.{GenerationContent}
use Rattle.survey_core.specs.History.{SurveyState, leaves_at, IsReached, IsSound}

-- the survey's description and its opening leaves, the batches that were accepted, and how many edits are published
pub record StateContent : Type 0 where
  pub conf : Description
  pub opening : LeafTiles
  pub batches : List (List LeafEdit)
  pub tip : ℕ

-- all its edits
abbrev pub state_edits : StateContent → List LeafEdit
state_edits state = edits_of state.batches

-- what of it changes
abbrev pub survey_state : StateContent → SurveyState
survey_state state = record { batches = state.batches; tip = state.tip }

-- its journal
abbrev pub journal_of : StateContent → JournalContent
journal_of state = record { shape = state.conf.shape; opening = state.opening; batches = state.batches }

-- its generation: that of the published prefix
abbrev pub generation_of : StateContent → GenerationContent
generation_of state = record { conf = state.conf; prefix = state.tip; leaves = leaves_at state.opening (survey_state state) }

-- what is true of every state
pub record IsState (state : StateContent) : Type 0 where
  pub journal : IsJournal (journal_of state)
  pub reached : IsReached state.opening (survey_state state)
  pub sound : IsSound (survey_state state)

-- ---- how it is kept: by its journal and its generation

abbrev pub kept_content : JournalContent → GenerationContent → StateContent
kept_content journal generation = record { conf = generation.conf; opening = journal.opening; batches = journal.batches; tip = generation.prefix }

-- the generation has the leaves after an end of the journal, and a history leads there
pub record IsKeptState (journal : JournalContent) (generation : GenerationContent) : Type 0 where
  pub shape : journal.shape ≡ generation.conf.shape
  pub whole : Contains (ends journal.batches) generation.prefix
  pub leaves : generation.leaves ≡ leaves_of journal.opening (take generation.prefix (journal_edits journal))
  pub reached : IsReached journal.opening (survey_state (kept_content journal generation))
