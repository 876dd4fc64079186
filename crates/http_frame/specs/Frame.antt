-- A connection that is read request by request, as contracts see it.
use Rattle.std.specs.Prelude.{◌≡◌, ℕ, ◌<◌, List, [], ◌++◌, length, take, Option, Some, IfSome, IsSomeAnd, Result, Ok, Err, IfOk, IfErr, OnOk, ⊤}
use Rattle.std.specs.Borrow.{Bor}
use Rattle.std.specs.Io.KnownBytes.{prepend_known}
use Rattle.http_frame.specs.declared.request.Request.{Request}
use Rattle.http_frame.specs.declared.stop.FrameStop.{FrameStop}
use Rattle.http_frame.specs.declared.stop.FrameStop.TheVariants.{End, Cut, ReadFault, Refuse}
use Rattle.http_frame.specs.declared.stop.Turn.{Turn}
use Rattle.http_frame.specs.declared.stop.Turn.TheVariants.{AtHead, AtBody, Stopped}
use Rattle.http_frame.specs.Next.{NextHead, ended, cut_off, refused, found, IsNextHead, IsFound, NeedsMore}

-- the bytes that were read and not yet given, the path of the last head, the body that was given last, what is read next,
-- and the room for a body
pub record FrameState : Type 0 where
  pub held : List ℕ
  pub path : Option (List ℕ)
  pub body : List ℕ
  pub turn : Turn
  pub room : ℕ

-- the unread bytes of the connection: those held, and those left in the source, where the proof can see them
abbrev pub unread : FrameState → Option (List ℕ) → Option (List ℕ)
unread frame left = prepend_known frame.held left

-- a head may be read now
abbrev pub AwaitsHead : Turn → Type 0
AwaitsHead AtHead = ⊤
AwaitsHead (AtBody n) = ⊥
AwaitsHead (Stopped stop) = ⊤

-- a body may be read now
abbrev pub AwaitsBody : Turn → Type 0
AwaitsBody AtHead = ⊥
AwaitsBody (AtBody n) = ⊤
AwaitsBody (Stopped stop) = ⊤

-- this comes next in the unread bytes, where the proof can see them
abbrev pub NextIs : ℕ → Option (List ℕ) → NextHead → Type 0
NextIs room known next = IfSome known (λ bytes. IsNextHead room bytes next)

-- a head was read: where the proof can see the bytes, it is the next one, and the bytes after it are unread
pub record ReadsHead (old new : FrameState) (left left' : Option (List ℕ)) (request : Request) : Type 0 where
  pub next : IfSome (unread old left) (λ bytes. IsSomeAnd (unread new left') (λ rest. IsNextHead old.room bytes (found request new.path rest)))
  pub turn : new.turn ≡ AtBody request.length

-- why no head was read
abbrev pub StopsHead : FrameState → FrameState → Option (List ℕ) → FrameStop → Type 0
StopsHead old new left End = NextIs old.room (unread old left) ended
StopsHead old new left Cut = NextIs old.room (unread old left) cut_off
StopsHead old new left (Refuse code) = NextIs old.room (unread old left) (refused code)
StopsHead old new left ReadFault = NeedsMore new.held

-- no body was read of n bytes
abbrev pub StopsBody : ℕ → FrameState → FrameState → Option (List ℕ) → FrameStop → Type 0
StopsBody n old new left Cut = IfSome (unread old left) (λ bytes. length bytes < n)
StopsBody n old new left ReadFault = length new.held < n
StopsBody n old new left End = ⊥
StopsBody n old new left (Refuse code) = ⊥

-- the unread bytes are what they were, where the proof can see them
abbrev pub KeepsUnread : FrameState → FrameState → Option (List ℕ) → Option (List ℕ) → Type 0
KeepsUnread old new left left' = IfSome (unread old left) (λ bytes. unread new left' ≡ Some bytes)

-- nothing was given: the unread bytes and the path are what they were, and the frame stops for good
pub record IsStopped (old new : FrameState) (left left' : Option (List ℕ)) (stop : FrameStop) : Type 0 where
  pub kept : KeepsUnread old new left left'
  pub path : new.path ≡ old.path
  pub turn : new.turn ≡ Stopped stop

-- what came of the source is the head that was read, with the bytes held before it, and the bytes held now
abbrev pub HoldsRest : FrameState → FrameState → List ℕ → Result Request FrameStop → Type 0
HoldsRest old new came (Ok request) = IsFound old.room (old.held ++ came) request new.path new.held
HoldsRest old new came (Err stop) = new.held ≡ old.held ++ came

-- fewer bytes are held than a body has
abbrev pub IsShort : ℕ → List ℕ → Type 0
IsShort n held = length held < n

-- the body is the first bytes of those held before and those that came
abbrev pub GivesFront : ℕ → List ℕ → Result (Bor (List ℕ)) FrameStop → Type 0
GivesFront n bytes result = IfOk result (λ body. body.now ≡ take n bytes)

-- where a frame that was at a body of n bytes is after it was asked for it
pub record LeavesBodyOf (n : ℕ) (old new : FrameState) (left left' : Option (List ℕ)) (result : Result (List ℕ) FrameStop) : Type 0 where
  pub read : IfOk result (λ body. IfSome (unread old left) (λ bytes. IsSomeAnd (unread new left') (λ rest. bytes ≡ body ++ rest)))
  pub turn : OnOk result (new.turn ≡ AtHead)
  pub exact : length old.held < n → OnOk result (new.held ≡ [])
  pub stopped : IfErr result (IsStopped old new left left')
  pub stop : IfErr result (StopsBody n old new left)

-- where a frame is after it was asked for a body
abbrev pub LeavesBodyAt : Turn → FrameState → FrameState → Option (List ℕ) → Option (List ℕ) → Result (List ℕ) FrameStop → Type 0
LeavesBodyAt AtHead old new left left' result = ⊤
LeavesBodyAt (AtBody n) old new left left' result = LeavesBodyOf n old new left left' result
LeavesBodyAt (Stopped stop) old new left left' result = new ≡ old

pub record LeavesBody (old new : FrameState) (left left' : Option (List ℕ)) (result : Result (List ℕ) FrameStop) : Type 0 where
  pub room : new.room ≡ old.room
  pub path : new.path ≡ old.path
  pub turn : LeavesBodyAt old.turn old new left left' result

-- what was answered, wherever the bytes lie in memory
abbrev pub answered : {E : Type 0} → Result (Bor (List ℕ)) E → Result (List ℕ) E
answered (Ok bytes) = Ok bytes.now
answered (Err error) = Err error
