-- The head of an id: its first eight bytes as one number, as though zeros followed them. Ids in order have heads in order.
use Rattle.std.specs.Prelude.{◌≡◌, ℕ, zero, suc, ◌+◌, ◌*◌, ◌<◌, List, [], ◌∷◌, slice_index_or}

-- so many further bytes behind a number that begins with those before them
abbrev pub head_on : ℕ → ℕ → List ℕ → ℕ
head_on zero before bytes = before
head_on (suc count) before [] = head_on count (before * 256) []
head_on (suc count) before (byte ∷ bytes) = head_on count (before * 256 + byte) bytes

abbrev pub id_head : List ℕ → ℕ
id_head id = head_on 8 0 id

-- each is a byte
abbrev pub AreBytes : List ℕ → Type 0
AreBytes bytes = (i : ℕ) → slice_index_or bytes i 0 < 256

-- a number is the head of an id, which is of bytes
pub record IsHead (head : ℕ) (id : List ℕ) : Type 0 where
  pub head_is : head ≡ id_head id
  pub are_bytes : AreBytes id
