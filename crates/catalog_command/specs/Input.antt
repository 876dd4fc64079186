-- The input of a source, whether or not the proof can see its bytes.
use Rattle.std.specs.Prelude.{◌≡◌, ◌⊎◌, ℕ, List, [], ◌++◌, Option, Some}
use Rattle.std.specs.Io.KnownBytes.{Consumes}

-- what may follow the bytes that were read: nothing, or what is left of the input, where the proof can see it
abbrev pub MayFollow : Option (List ℕ) → List ℕ → Type 0
MayFollow left more = (more ≡ []) ⊎ (left ≡ Some more)

-- whatever the proof sees of the source, it is so of the input: of the bytes that were read, as though the input ended behind them,
-- and of the whole input, where the proof can see it
pub record OfInput (P : List ℕ → Type 0) (left left' : Option (List ℕ)) : Type 0 where
  pub came : List ℕ
  pub consumed : Consumes left left' came
  pub is : (more : List ℕ) → MayFollow left' more → P (came ++ more)
