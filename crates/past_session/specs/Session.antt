-- A session between two records, as contracts see it, and what it is kept as.
use Rattle.std.specs.Prelude.{◌≡◌, ◌≤◌, true, List, slice_get}
use Rattle.survey_conf.specs.Description.{Description}
use Rattle.edit_journal.specs.Edit.{LeafEdit}
use Rattle.edit_journal.specs.Leaves.{LeafTiles}
use Rattle.edit_journal.specs.Batches.{edits_of}
use Rattle.edit_journal.specs.Journal.{JournalContent}
use Rattle.past_reads.specs.Past.{PastContent, GoesOnFrom}
use Rattle.past_session.specs.Answers.{PastState, BatchVerdict, batches_after}

-- the survey's description and its opening leaves, and what the records before leave
pub record SessionContent : Type 0 where
  pub conf : Description
  pub opening : LeafTiles
  pub state : PastState

-- all edits that were accepted
abbrev pub state_edits : SessionContent → List LeafEdit
state_edits session = edits_of session.state.batches

-- the session after a batch with this verdict
abbrev pub batch_accepted : SessionContent → BatchVerdict → SessionContent
batch_accepted session verdict = record { conf = session.conf; opening = session.opening; state = record { batches = batches_after session.state.batches verdict; last = session.state.last } }

-- a file was last looked for in the generation that was used last
abbrev pub kept_content : Description → JournalContent → PastContent → SessionContent
kept_content d journal past = record { conf = d; opening = journal.opening; state = record { batches = journal.batches; last = slice_get past.held 0 } }

-- the cache is of the survey, keeps the generation of its opening leaves, has room, and knows the first batches of the journal
pub record IsKeptSession (d : Description) (journal : JournalContent) (past : PastContent) : Type 0 where
  pub conf : past.conf ≡ d
  pub opened : past.opened ≡ true
  pub goes_on : GoesOnFrom past journal
  pub room : 1 ≤ past.room
