-- How a journal keeps its batches: as one list of notes, an edit each, with a mark on the last edit of a batch.
use Rattle.std.specs.Prelude.{◌≡◌, ℕ, Bool, true, false, List, [], ◌∷◌, map, if◌then◌else◌}
use Rattle.pyramid_model.specs.Shape.{PyramidShape}
use Rattle.edit_journal.specs.Edit.{LeafEdit}
use Rattle.edit_journal.specs.Leaves.{LeafTiles, leaves_of, charge_of}
use Rattle.edit_journal.specs.Journal.{JournalContent, IsJournal}

pub record Note : Type 0 where
  pub edit : LeafEdit
  pub closes : Bool

abbrev pub noted_edits : List Note → List LeafEdit
noted_edits notes = map (λ note. note.edit) notes

-- batches with one edit more at the front of the first of them
abbrev pub onto_first : LeafEdit → List (List LeafEdit) → List (List LeafEdit)
onto_first edit [] = (edit ∷ []) ∷ []
onto_first edit (batch ∷ batches) = (edit ∷ batch) ∷ batches

-- the batches: each ends with a marked note
abbrev pub noted_batches : List Note → List (List LeafEdit)
noted_batches [] = []
noted_batches (note ∷ notes) = if note.closes then (note.edit ∷ []) ∷ noted_batches notes else onto_first note.edit (noted_batches notes)

-- the last note is marked
abbrev pub IsClosed : List Note → Type 0
IsClosed [] = Unit {0}
IsClosed (note ∷ []) = note.closes ≡ true
IsClosed (note ∷ next ∷ notes) = IsClosed (next ∷ notes)

abbrev pub kept_content : PyramidShape → LeafTiles → List Note → JournalContent
kept_content shape opening notes = record { shape = shape; opening = opening; batches = noted_batches notes }

-- what is kept beside the notes is what the edits make of the opening leaves
pub record IsKeptJournal (shape : PyramidShape) (opening : LeafTiles) (notes : List Note) (leaves : LeafTiles) (charge : ℕ) : Type 0 where
  pub journal : IsJournal (kept_content shape opening notes)
  pub closed : IsClosed notes
  pub leaves_are : leaves ≡ leaves_of opening (noted_edits notes)
  pub charge_is : charge ≡ charge_of opening (noted_edits notes)

-- the notes of a batch: the last one is marked
abbrev pub noted : List LeafEdit → List Note
noted [] = []
noted (edit ∷ []) = record { edit = edit; closes = true } ∷ []
noted (edit ∷ next ∷ edits) = record { edit = edit; closes = false } ∷ noted (next ∷ edits)
