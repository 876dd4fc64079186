-- The readings that a frame makes of a source: each is needed, and none comes after one that gave nothing.
use Rattle.std.specs.Prelude.{◌≡◌, ℕ, ◌+◌, ◌<◌, ◌⊎◌, List, [], ◌∷◌, ◌++◌, length, Option, IfSome}
use Rattle.std.specs.List.{concat}
use Rattle.std.specs.Io.KnownBytes.{Consumes}
use Rattle.survey_link.specs.Link.{readings_after}

-- one reading, which gave this piece: nothing where it failed or the source was at its end
pub record IsReading {S : Type 0} (left : S → Option (List ℕ)) (readings : S → Option ℕ) (old new : S) (piece : List ℕ) : Type 0 where
  pub given : Consumes (left old) (left new) piece
  pub counted : readings new ≡ readings_after 1 (readings old)

-- the readings one after another, by what they gave. Before each the bytes held, with the pieces before it, need more; each
-- but the last gave some bytes, so that only the last may have failed
abbrev pub EachNeeded : {S : Type 0} → (S → Option (List ℕ)) → (S → Option ℕ) → (List ℕ → Type 0) → List ℕ → List (List ℕ) → S → S → Type 0
EachNeeded left readings needs held [] old new = new ≡ old
EachNeeded {S} left readings needs held (piece ∷ more) old new = needs held × ((more ≡ []) ⊎ (0 < length piece))
    × ((mid : S) × IsReading left readings old mid piece × EachNeeded left readings needs (held ++ piece) more mid new)

-- the source was read while it was needed, and these bytes came: pieces, one a reading
pub record ReadsWhile {S : Type 0} (left : S → Option (List ℕ)) (readings : S → Option ℕ) (needs : List ℕ → Type 0) (held : List ℕ) (old new : S) (came : List ℕ) : Type 0 where
  pub pieces : List (List ℕ)
  pub came_is : came ≡ concat pieces
  pub each : EachNeeded left readings needs held pieces old new
  pub counted : IfSome (readings old) (λ n. IfSome (readings new) (λ m. m ≡ n + length pieces))
