-- One step of reading leaf records, from the bytes that are left.
use Rattle.std.specs.Prelude.{◌≡◌, ℕ, zero, suc, ◌+◌, ◌<◌, ◌≤◌, List, [], ◌∷◌, drop, length, flat_map, All, IsTrue, ◌==◌, ℤ, Option, Some, ⊤}
use Rattle.std.specs.List.{list_any}
use Rattle.std.specs.Io.KnownBytes.{Consumes}
use Rattle.healpix_nested.specs.Cells.{cell_count}
use Rattle.survey_link.specs.Link.{readings_after}
use Rattle.leaf_probe.specs.declared.fault.ProbeFault.{ProbeFault}
use Rattle.leaf_probe.specs.declared.fault.ProbeFault.TheVariants.{Cut, Read, Write, OutOfMemory, OutOfRange}
use Rattle.leaf_probe.specs.Records.{record_length, leaf_number, stored_numbers}
use Rattle.leaf_probe.specs.Status.{status_of}

-- a whole record of a leaf comes first in the input, and was taken from it
pub record TakesRecord (top n : ℕ) (input : List ℕ) (left : Option (List ℕ)) (leaf : ℕ) (numbers : List ℤ) : Type 0 where
  pub whole : record_length n ≤ length input
  pub leaf_is : leaf ≡ leaf_number n input 0
  pub numbers_are : numbers ≡ stored_numbers n input 0
  pub rest : left ≡ Some (drop (record_length n) input)

-- the input ends within its first record, whose number is a leaf's if it is there whole
pub record IsCut (top n : ℕ) (input : List ℕ) : Type 0 where
  pub some : 0 < length input
  pub short : length input < record_length n
  pub number : 8 ≤ length input → leaf_number n input 0 < cell_count top

-- the number of the first record is whole in the input, and is no leaf's
pub record NamesNoLeaf (top n : ℕ) (input : List ℕ) : Type 0 where
  pub there : 8 ≤ length input
  pub number : cell_count top ≤ leaf_number n input 0

-- why the next record wasn't taken
abbrev pub StopsRecord : ℕ → ℕ → List ℕ → ProbeFault → Type 0
StopsRecord top n input Cut = IsCut top n input
StopsRecord top n input OutOfRange = NamesNoLeaf top n input
StopsRecord top n input Read = ⊤
StopsRecord top n input _ = ⊥

-- the fault is one of those with these statuses
abbrev pub HasStatusIn : List ℕ → ProbeFault → Type 0
HasStatusIn statuses fault = IsTrue (list_any (λ status. status == status_of fault) statuses)

-- the faults of reading one record, of reading all, and of making the tile
abbrev pub record_statuses : List ℕ
record_statuses = 4 ∷ 5 ∷ 13 ∷ []

abbrev pub reading_statuses : List ℕ
reading_statuses = 4 ∷ 5 ∷ 11 ∷ 12 ∷ 13 ∷ []

abbrev pub tile_statuses : List ℕ
tile_statuses = 10 ∷ 11 ∷ []

-- the fault fits this status of reading; running out of memory and a failing source or sink fit any
abbrev pub StandsFor : ProbeFault → ℕ → Type 0
StandsFor Read status = ⊤
StandsFor Write status = ⊤
StandsFor OutOfMemory status = ⊤
StandsFor fault status = status ≡ status_of fault

-- ---- each reading

-- the number of readings after so many more
abbrev pub after_readings : ℕ → Option ℕ → Option ℕ
after_readings zero readings = readings
after_readings (suc more) readings = readings_after 1 (after_readings more readings)

-- what was read came in pieces, one a reading and none of them empty; besides, so many readings gave nothing, since the
-- input was at its end or the source refused
pub record ReadsPieces (empty : ℕ) (left left' : Option (List ℕ)) (readings readings' : Option ℕ) : Type 0 where
  pub pieces : List (List ℕ)
  pub none_is_empty : All (λ piece. 0 < length piece) pieces
  pub taken : Consumes left left' (flat_map (λ piece. piece) pieces)
  pub counted : readings' ≡ after_readings (length pieces + empty) readings

-- how many of the readings that ended by a fault gave nothing: that at the end of the input, or that which was refused
abbrev pub empty_readings : ProbeFault → ℕ
empty_readings Cut = 1
empty_readings Read = 1
empty_readings _ = 0

-- at most one reading gave nothing, whatever the source: so none is made after it, since that might give nothing too
abbrev pub ReadsToTheEnd : Option (List ℕ) → Option (List ℕ) → Option ℕ → Option ℕ → Type 0
ReadsToTheEnd left left' readings readings' = (empty : ℕ) × (empty ≤ 1) × ReadsPieces empty left left' readings readings'
