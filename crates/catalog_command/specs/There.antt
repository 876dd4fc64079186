-- Which rows are there after many lines, refused ones among them.
use Rattle.std.specs.Prelude.{◌≡◌, ◌⊎◌, ◌↔◌, ℕ, true, false, List, ◌∷◌, drop, Ok, Err, ⊤}
use Rattle.hips_catalog.specs.Rows.{Source}
use Rattle.hips_catalog.specs.Reading.{read_row}
use Rattle.hips_catalog.specs.Catalogue.{Catalogue}
use Rattle.hips_catalog.specs.Laws.{IsAmong}
use Rattle.catalog_command.specs.Lines.{is_removal}
use Rattle.catalog_command.specs.Answers.{Answer, AreAnswered}

-- the line puts this row in
abbrev pub PutsIn : ℕ → List ℕ → Source → Type 0
PutsIn top line s = (is_removal line ≡ false) × (read_row top line ≡ Ok s)

-- the line takes out the row of this id
abbrev pub TakesOut : List ℕ → List ℕ → Type 0
TakesOut line id = (is_removal line ≡ true) × (drop 2 line ≡ id)

-- no line that was used takes out the row of the id
abbrev pub Stays : List ℕ → List (List ℕ) → List Answer → Type 0
Stays id (line ∷ lines) (Ok done ∷ answers) = (¬ TakesOut line id) × Stays id lines answers
Stays id (line ∷ lines) (Err refusal ∷ answers) = Stays id lines answers
Stays id _ _ = ⊤

-- a line that was used puts the row in, and no later one takes it out
abbrev pub Comes : ℕ → Source → List (List ℕ) → List Answer → Type 0
Comes top s (line ∷ lines) (Ok done ∷ answers) = (PutsIn top line s × Stays s.id lines answers) ⊎ Comes top s lines answers
Comes top s (line ∷ lines) (Err refusal ∷ answers) = Comes top s lines answers
Comes top s _ _ = ⊥

-- after the lines the rows are those that were there and stay, and those that came
abbrev pub RowsAreThere : Type 0
RowsAreThere = (lines : List (List ℕ)) (old : Catalogue) (answers : List Answer) (new : Catalogue) → AreAnswered lines old answers new
    → (s : Source) → IsAmong s new.rows ↔ ((IsAmong s old.rows × Stays s.id lines answers) ⊎ Comes old.top s lines answers)
