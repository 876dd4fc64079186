-- The states that a survey passes through: batches of edits are accepted one after another, and prefixes of the edits are
-- published. This project's profile.
use Rattle.std.specs.Prelude.{◌≡◌, ◌⊎◌, ℕ, ◌<◌, ◌≤◌, List, [], ◌∷◌, ◌++◌, length, take, All, Contains, None}
use Rattle.edit_journal.specs.Edit.{LeafEdit}
use Rattle.edit_journal.specs.Leaves.{LeafTiles, leaves_of}
use Rattle.edit_journal.specs.Faults.{batch_fault}
use Rattle.edit_journal.specs.Batches.{edits_of, ends}

-- the batches that were accepted, and how many edits are published, the tip
pub record SurveyState : Type 0 where
  pub batches : List (List LeafEdit)
  pub tip : ℕ

-- its edits: its batches one after another
abbrev pub edits_at : SurveyState → List LeafEdit
edits_at state = edits_of state.batches

-- the leaves that are published
abbrev pub leaves_at : LeafTiles → SurveyState → LeafTiles
leaves_at opening state = leaves_of opening (take state.tip (edits_at state))

-- the first state: no batch, and tip 0
abbrev pub opening_state : SurveyState
opening_state = record { batches = []; tip = 0 }

-- the batch, which has edits, and none with a fault after those before it, is at the end; the tip is kept
pub record AppendsBatch (opening : LeafTiles) (batch : List LeafEdit) (old new : SurveyState) : Type 0 where
  pub some : 0 < length batch
  pub accepted : batch_fault opening (edits_at old) batch ≡ None
  pub batches : new.batches ≡ old.batches ++ batch ∷ []
  pub tip : new.tip ≡ old.tip

-- a batch is accepted
pub record IsBatchStep (opening : LeafTiles) (old new : SurveyState) : Type 0 where
  pub batch : List LeafEdit
  pub appended : AppendsBatch opening batch old new

-- a prefix of the edits is published: the tip rises to an end of the batches, and these are kept
pub record IsPublication (old new : SurveyState) : Type 0 where
  pub batches : new.batches ≡ old.batches
  pub rises : old.tip < new.tip
  pub whole : Contains (ends old.batches) new.tip

abbrev pub IsStep : LeafTiles → SurveyState → SurveyState → Type 0
IsStep opening old new = IsBatchStep opening old new ⊎ IsPublication old new

-- each of the states is a step after the one before it, the first of them after `state`
abbrev pub GoesOn : LeafTiles → SurveyState → List SurveyState → Type 0
GoesOn opening state [] = Unit {0}
GoesOn opening state (next ∷ states) = IsStep opening state next × GoesOn opening next states

-- the states of a survey, from the first one on
abbrev pub IsHistory : LeafTiles → List SurveyState → Type 0
IsHistory opening [] = ⊥
IsHistory opening (first ∷ states) = (first ≡ opening_state) × GoesOn opening first states

-- a history leads to the state
pub record IsReached (opening : LeafTiles) (state : SurveyState) : Type 0 where
  pub before : List SurveyState
  pub history : IsHistory opening (before ++ state ∷ [])

-- ys is xs and a rest
pub record Begins {X : Type 0} (xs ys : List X) : Type 0 where
  pub rest : List X
  pub is : ys ≡ xs ++ rest

-- what stays of an earlier state in a later one: its batches and edits are at the front, its ends are ends, and the tip
-- hasn't fallen
pub record Precedes (earlier later : SurveyState) : Type 0 where
  pub batches : Begins earlier.batches later.batches
  pub edits : Begins (edits_at earlier) (edits_at later)
  pub ends : (k : ℕ) → Contains (ends earlier.batches) k → Contains (ends later.batches) k
  pub tip : earlier.tip ≤ later.tip

-- what is true of each state of a history: no batch is empty, and the tip is an end
pub record IsSound (state : SurveyState) : Type 0 where
  pub some : All (λ batch. 0 < length batch) state.batches
  pub whole : Contains (ends state.batches) state.tip
  pub within : state.tip ≤ length (edits_at state)
