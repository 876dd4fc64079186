-- A journal as contracts see it.
use Rattle.std.specs.Prelude.{◌≡◌, ℕ, ◌<◌, ◌≤◌, List, length, All}
use Rattle.pyramid_model.specs.Shape.{PyramidShape}
use Rattle.edit_journal.specs.Edit.{LeafEdit}
use Rattle.edit_journal.specs.Leaves.{LeafTiles, charge_of, FitsLeaves, FitsEdit}
use Rattle.edit_journal.specs.Faults.{most_edits, most_charge}
use Rattle.edit_journal.specs.Batches.{edits_of}

-- the survey's shape, its opening leaves, and the batches that were accepted
pub record JournalContent : Type 0 where
  pub shape : PyramidShape
  pub opening : LeafTiles
  pub batches : List (List LeafEdit)

-- all its edits
abbrev pub journal_edits : JournalContent → List LeafEdit
journal_edits journal = edits_of journal.batches

-- what is true of every journal
pub record IsJournal (journal : JournalContent) : Type 0 where
  pub opening : FitsLeaves journal.shape journal.opening
  pub edits : All (FitsEdit journal.shape) (journal_edits journal)
  pub batches : All (λ batch. 0 < length batch) journal.batches
  pub count : length (journal_edits journal) ≤ most_edits
  pub charge : charge_of journal.opening (journal_edits journal) ≤ most_charge
