-- Files that hold a write-ahead log (WAL) up to a gate that isn't open.
use Rattle.std.specs.Prelude.{◌≡◌, ◌≢◌, ◌⊎◌, ℕ, ◌+◌, ◌<◌, List, ◌∷◌, ◌++◌, length, slice_index}

-- the file begins with these bytes, and behind them is a byte that is no open gate; what is behind that means nothing
pub record Shut (front file : List ℕ) : Type 0 where
  pub longer : length front < length file
  pub same : (i : ℕ) → i < length front → slice_index file i ≡ slice_index front i
  pub gate : slice_index file (length front) ≢ 1

-- these bytes stand behind that gate
pub record HasStaged (front staged file : List ℕ) : Type 0 where
  pub shut : Shut front file
  pub within : length front + length staged < length file
  pub there : (i : ℕ) → i < length staged → slice_index file (length front + 1 + i) ≡ slice_index staged i

-- a record behind the first bytes: its gate, which is open, and the others
abbrev pub with_record : List ℕ → List ℕ → List ℕ
with_record front body = front ++ (1 ∷ body)

-- the file has the record or not
abbrev pub WithOrWithout : List ℕ → List ℕ → List ℕ → Type 0
WithOrWithout front body file = Shut front file ⊎ Shut (with_record front body) file

-- only its gate decides whether the file has the record
pub record IsReady (front body file : List ℕ) : Type 0 where
  pub longer : length front + 1 + length body < length file
  pub same : (i : ℕ) → i < length front → slice_index file i ≡ slice_index front i
  pub there : (i : ℕ) → i < length body → slice_index file (length front + 1 + i) ≡ slice_index body i
  pub next : slice_index file (length front + 1 + length body) ≢ 1
