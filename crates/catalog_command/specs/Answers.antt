-- What comes of many lines, each of which is used or refused: a refused one changes nothing, and the next is judged by what is
-- there then.
use Rattle.std.specs.Prelude.{◌≡◌, ℕ, List, [], ◌∷◌, Result, Ok, Err}
use Rattle.hips_catalog.specs.Catalogue.{Catalogue}
use Rattle.catalog_command.specs.declared.refusal.LineFault.{LineFault}
use Rattle.catalog_command.specs.declared.line.LineRefusal.{LineRefusal}
use Rattle.catalog_command.specs.declared.line.LineRefusal.TheVariants.{Fault, OutOfMemory}
use Rattle.catalog_command.specs.Lines.{after_line}

-- the answer to a line, or that it was used
abbrev pub Answer : Type 0
Answer = Result (Unit {0}) LineRefusal

-- what a line makes of a catalogue, or its fault: the catalogue is that; or the fault is told, and the catalogue stays; or there
-- was no memory, and it stays
abbrev pub IsAnswered : Result Catalogue LineFault → Catalogue → Answer → Catalogue → Type 0
IsAnswered made old (Ok done) new = made ≡ Ok new
IsAnswered made old (Err (Fault fault)) new = (made ≡ Err fault) × (new ≡ old)
IsAnswered made old (Err OutOfMemory) new = new ≡ old

-- line after line
abbrev pub AreAnswered : List (List ℕ) → Catalogue → List Answer → Catalogue → Type 0
AreAnswered [] old [] new = new ≡ old
AreAnswered [] old (answer ∷ answers) new = ⊥
AreAnswered (line ∷ lines) old [] new = ⊥
AreAnswered (line ∷ lines) old (answer ∷ answers) new =
    (then : Catalogue) × IsAnswered (after_line old line) old answer then × AreAnswered lines then answers new
