-- The rule of the book that keeps a history, and what a step answers.
use Rattle.std.specs.Prelude.{◌≡◌, ℕ, ◌<◌, true, List, [], ◌∷◌, ◌++◌, map, length, slice_index}
use Rattle.logbook.specs.Pages.{Cell, Step, View, Book, Named}
use Rattle.shared_history.specs.Histories.{SeenHistory, places_of, IsSeenHistory}

-- an entry of the book: a state, and the number of the seat that appended it. The first state is nobody's: its entry has in
-- place of that how many seats there are
pub record Numbered (S : Type 0) : Type 0 where
  pub number : ℕ
  pub state : S

abbrev pub states_of : {S : Type 0} → List (Numbered S) → List S
states_of log = map (λ entry. entry.state) log

abbrev pub owners_of : {S : Type 0} → List (Numbered S) → List ℕ
owners_of [] = []
owners_of (first ∷ log) = map (λ entry. entry.number) log

abbrev pub seats_of : {S : Type 0} → List (Numbered S) → ℕ
seats_of [] = 0
seats_of (first ∷ log) = first.number

-- what is seen of a book whose last state this is
abbrev pub history_of : {S : Type 0} → List (Numbered S) → S → SeenHistory S
history_of log last = record { states = states_of log; owners = owners_of log; seats = seats_of log; last = last }

-- the first word is how long the history is, which is legal from its first state on; the second word isn't used
pub record IsKeptHistory {S : Type 0} (Legal : List S → Type 0) (cells : List Cell) (log : List (Numbered S)) : Type 0 where
  pub words : cells ≡ (length log, true) ∷ (0, true) ∷ []
  pub legal : 0 < length log → Legal (states_of log)

abbrev pub head_of : Book → Named
head_of book = record { tracked = true; key = 0; book = book }

-- if the history was as long as was known, all of it was, and the state follows it now
abbrev pub Adds : {E : Type 0} → Step E → View E ℕ → ℕ → View E ℕ → Type 0
Adds step before found after = found ≡ step.old → after.0 ≡ before.0 ++ step.ask ∷ []

-- what is shown: a history that was seen, and the book that has it
pub record Shows (S : Type 0) : Type 0 where
  pub book : Book
  pub history : SeenHistory S

-- how a history that was seen is kept: its length, how many states each seat has appended, and the states that were seen
pub record IsKeptSeen {S : Type 0} (Legal : List S → Type 0) (states : ℕ) (counts : List ℕ) (history : SeenHistory S) : Type 0 where
  pub count : states ≡ length history.states
  pub seats : length counts ≡ history.seats
  pub made : (seat : ℕ) → seat < history.seats → slice_index counts seat ≡ length (places_of seat history.owners)
  pub seen : IsSeenHistory Legal history
