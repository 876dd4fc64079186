-- A peer, as contracts see it.
use Rattle.std.specs.Prelude.{◌≡◌, List, ℕ, Bool, Option, IfSome, IsSomeAnd}
use Rattle.survey_link.specs.Link.{CountsFault}
use Rattle.survey_link.specs.declared.source.Source as source
use Rattle.survey_link.specs.declared.sink.Sink as sink
use Rattle.survey_link.specs.Inbox.{held}
use Rattle.mirror_frame.specs.Exchange.{Talk}
use Rattle.mirror_frame.specs.Reading.{unread}
use Rattle.mirror_frame.specs.declared.peer.Peer.{Peer}

-- the conversation with it, at this moment
abbrev pub talk : {S K : Type 0} → Peer S K → Talk S K
talk peer = record { src = peer.src.now; sink = peer.sink.now; held = held peer.received.now.inbox }

-- the body of the last reply
abbrev pub body_of : {S K : Type 0} → Peer S K → List ℕ
body_of peer = peer.received.now.body.items

-- the unread bytes: those held and those left, where the proof can see them
abbrev pub unread_at : {S K : Type 0} → source.Ghosts S → Peer S K → Option (List ℕ)
unread_at told peer = unread (held peer.received.now.inbox) (told.left peer.src.now)

-- from one moment to a later one: an end's count of faults rose where that end failed, and else stayed; the ends are the same
pub record Goes {S K : Type 0} (told_source : source.Ghosts S) (told_sink : sink.Ghosts K) (read_failed write_failed : Bool) (old new : Peer S K) : Type 0 where
  pub source : CountsFault read_failed (told_source.faults old.src.now) (told_source.faults new.src.now)
  pub sink : CountsFault write_failed (told_sink.faults old.sink.now) (told_sink.faults new.sink.now)
  pub same_source : new.src.ghost_name ≡ old.src.ghost_name
  pub same_sink : new.sink.ghost_name ≡ old.sink.ghost_name

-- where the proof can see the unread bytes before, it can see them after, and this is so of the two
abbrev pub Told : Option (List ℕ) → Option (List ℕ) → (List ℕ → List ℕ → Type 0) → Type 0
Told before after Relates = IfSome before (λ bytes. IsSomeAnd after (λ rest. Relates bytes rest))
