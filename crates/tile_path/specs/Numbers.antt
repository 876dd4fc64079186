-- Numbers within a text: in plain decimals, up to the first byte that is no digit.
use Rattle.std.specs.Prelude.{◌≡◌, ℕ, ◌+◌, ◌^◌, ◌<◌, List, [], ◌∷◌, ◌++◌, length, take, drop, decimal}
use Rattle.std.specs.Int.{IsInRange}

-- a text that can follow a number: it is empty, or its first byte is no digit
abbrev pub EndsNumber : List ℕ → Type 0
EndsNumber [] = Unit {0}
EndsNumber (byte ∷ bytes) = ¬ (IsInRange 48 57 byte)

-- the text is a word, a number below 2 ^ 64 in plain decimals, and a rest
pub record HasNumber (text word : List ℕ) (number : ℕ) (rest : List ℕ) : Type 0 where
  pub is : text ≡ word ++ (decimal number ++ rest)
  pub in_range : number < 2 ^ 64
  pub ends : EndsNumber rest

-- new is old with the bytes written from one place on, up to another
pub record Writes (old new : List ℕ) (start end : ℕ) (bytes : List ℕ) : Type 0 where
  pub end_is : end ≡ start + length bytes
  pub front : take end new ≡ take start old ++ bytes
  pub rest : drop end new ≡ drop end old
