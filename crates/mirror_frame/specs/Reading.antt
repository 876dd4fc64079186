-- What reading one reply does, as its steps say it.
use Rattle.std.specs.Prelude.{◌≡◌, ℕ, List, Option, IfSome, IsSome, Bool, true, false, Result, Ok, Err, ⊤}
use Rattle.std.specs.Io.KnownBytes.{prepend_known, IsAtEnd}
use Rattle.http_frame.specs.Next.{NeedsMore}
use Rattle.http_frame.specs.declared.stop.FrameStop.{FrameStop}
use Rattle.http_frame.specs.declared.stop.FrameStop.TheVariants as stopped
use Rattle.mirror_frame.specs.Reply.{IsReply, IsCutReply, IsWrongReply, FitsPrefix, pinned_line}
use Rattle.mirror_frame.specs.declared.due.Due.{Due}
use Rattle.mirror_frame.specs.declared.due.Due.TheVariants.{Pinned}
use Rattle.mirror_frame.specs.declared.reading.ReplyStop.{ReplyStop}
use Rattle.mirror_frame.specs.declared.reading.ReplyStop.TheVariants.{Wrong, Cut, ReadFault, WriteFault, OutOfMemory}

-- the unread bytes: those held and those left, where the proof can see them
abbrev pub unread : List ℕ → Option (List ℕ) → Option (List ℕ)
unread held left = prepend_known held left

-- why no reply was read, by the unread bytes
abbrev pub StopsReply : Due → List ℕ → ReplyStop → Type 0
StopsReply due bytes Wrong = IsWrongReply due bytes
StopsReply due bytes Cut = IsCutReply due bytes
StopsReply due bytes ReadFault = ⊤
StopsReply due bytes WriteFault = ⊤
StopsReply due bytes OutOfMemory = ⊤

-- a head that doesn't end is wrong, and one that isn't there is cut
abbrev pub of_stopped : FrameStop → ReplyStop
of_stopped (stopped.Refuse code) = Wrong
of_stopped stopped.End = Cut
of_stopped stopped.Cut = Cut
of_stopped stopped.ReadFault = ReadFault

-- a request has no reply since the source failed; since the sink failed
abbrev pub read_failed : {A : Type 0} → Result A ReplyStop → Bool
read_failed (Err ReadFault) = true
read_failed _ = false

abbrev pub write_failed : {A : Type 0} → Result A ReplyStop → Bool
write_failed (Err WriteFault) = true
write_failed _ = false

-- why no head of the reply that is due is held
abbrev pub StopsBegin : Due → List ℕ → Option (List ℕ) → ReplyStop → Type 0
StopsBegin due held left Wrong = IsWrongReply due held
StopsBegin due held left Cut = NeedsMore held × IsAtEnd left
StopsBegin due held left ReadFault = ⊤
StopsBegin due held left WriteFault = ⊥
StopsBegin due held left OutOfMemory = ⊥

-- the reply to a pin gives the same number twice
abbrev pub TellsPinned : Due → List ℕ → Option ℕ → Type 0
TellsPinned due body prefix = due ≡ Pinned → IsSome prefix × IfSome prefix (λ k. body ≡ pinned_line k)

-- the reply that is due came first in these bytes, with this body, and the rest follows it; or why it didn't, where these
-- bytes are left to be read
abbrev pub ReadsReply : Due → List ℕ → List ℕ → List ℕ → Option (List ℕ) → Result (Option ℕ) ReplyStop → Type 0
ReadsReply due bytes body rest left (Ok prefix) = IsReply due bytes body rest × FitsPrefix due prefix × TellsPinned due body prefix
ReadsReply due bytes body rest left (Err Wrong) = IsWrongReply due bytes
ReadsReply due bytes body rest left (Err Cut) = IsCutReply due bytes × IsAtEnd left
ReadsReply due bytes body rest left (Err ReadFault) = ⊤
ReadsReply due bytes body rest left (Err WriteFault) = ⊥
ReadsReply due bytes body rest left (Err OutOfMemory) = ⊤
