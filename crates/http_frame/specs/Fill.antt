-- What reading until a whole head or body is held does.
use Rattle.std.specs.Prelude.{◌≡◌, ℕ, ◌<◌, ◌≤◌, Bool, true, false, List, [], ◌++◌, length, Option, Result, Err}
use Rattle.std.specs.Io.KnownBytes.{Consumes, IsAtEnd}
use Rattle.http_frame.specs.declared.stop.FrameStop.{FrameStop}
use Rattle.http_frame.specs.declared.stop.FrameStop.TheVariants.{End, Cut, ReadFault, Refuse}
use Rattle.http_frame.specs.Next.{HasNoHead, NeedsMore, most_head}

-- the bytes that the source lost are held behind the others
pub record Takes (held held' : List ℕ) (left left' : Option (List ℕ)) : Type 0 where
  pub more : List ℕ
  pub grown : held' ≡ held ++ more
  pub consumed : Consumes left left' more

-- the input ends before so many bytes follow those that are held
pub record EndsShort (count : ℕ) (held : List ℕ) (left left' : Option (List ℕ)) : Type 0 where
  pub all : List ℕ
  pub taken : Takes held all left left'
  pub short : length all < count
  pub end : IsAtEnd left'

-- why no whole head is held
abbrev pub StopsFill : List ℕ → Option (List ℕ) → FrameStop → Type 0
StopsFill held left End = (held ≡ []) × IsAtEnd left
StopsFill held left Cut = (0 < length held) × NeedsMore held × IsAtEnd left
StopsFill held left (Refuse code) = (code ≡ 431) × (most_head ≤ length held) × HasNoHead held
StopsFill held left ReadFault = NeedsMore held

-- why no body of n bytes is held
abbrev pub StopsBodyFill : ℕ → List ℕ → Option (List ℕ) → FrameStop → Type 0
StopsBodyFill n held left End = ⊥
StopsBodyFill n held left Cut = (length held < n) × IsAtEnd left
StopsBodyFill n held left (Refuse code) = ⊥
StopsBodyFill n held left ReadFault = length held < n

-- the source failed
abbrev pub read_failed : {T : Type 0} → Result T FrameStop → Bool
read_failed (Err ReadFault) = true
read_failed _ = false
