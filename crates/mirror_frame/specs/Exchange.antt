-- A conversation with a peer: one request after another, each with its reply.
use Rattle.std.specs.Prelude.{◌≡◌, ◌⊎◌, ℕ, List, [], ◌∷◌, ◌++◌, Err}
use Rattle.std.specs.Io.KnownBytes.{Appends}
use Rattle.survey_link.specs.Link.{AppendsPrefix}
use Rattle.survey_link.specs.declared.source.Source as source
use Rattle.survey_link.specs.declared.sink.Sink as sink
use Rattle.http_frame.specs.Readings.{ReadsWhile}
use Rattle.mirror_frame.specs.Requests.{request_bytes}
use Rattle.mirror_frame.specs.Reply.{IsReply, IsCutReply}
use Rattle.mirror_frame.specs.Reading.{ReadsReply}
use Rattle.mirror_frame.specs.declared.reading.ReplyStop.{ReplyStop}
use Rattle.mirror_frame.specs.declared.reading.ReplyStop.TheVariants.{WriteFault}
use Rattle.mirror_frame.specs.declared.ask.Ask.{Ask}
use Rattle.mirror_frame.specs.declared.ask.Ask.TheVariants.{Pin, File, Unpin}
use Rattle.mirror_frame.specs.declared.due.Due.{Due}
use Rattle.mirror_frame.specs.declared.due.Due.TheVariants.{Pinned, Survey, Any}

-- a conversation at one moment: its two ends, and the bytes that were read and belong to no reply yet
pub record Talk (S K : Type 0) : Type 0 where
  pub src : S
  pub sink : K
  pub held : List ℕ

-- what the reply to a request must say, if k edits are published in the state that is pinned
abbrev pub due_of : ℕ → Ask → Due
due_of k Pin = Pinned
due_of k (File path) = Survey k
due_of k Unpin = Any

module _ {S K : Type 0} (told_source : source.Ghosts S) (told_sink : sink.Ghosts K) where
  -- the request was written whole and flushed, and nothing was read
  pub record IsSent (ask : Ask) (old new : Talk S K) : Type 0 where
    pub src : new.src ≡ old.src
    pub held : new.held ≡ old.held
    pub written : Appends (told_sink.held old.sink) (told_sink.held new.sink) (request_bytes ask)
    pub flushed : told_sink.flushed new.sink ≡ told_sink.held new.sink

  -- these bytes came, each of them needed by the reply, and nothing was written
  pub record IsRead (due : Due) (old new : Talk S K) (came : List ℕ) : Type 0 where
    pub sink : new.sink ≡ old.sink
    pub reads : ReadsWhile told_source.left told_source.readings (IsCutReply due) old.held old.src new.src came

  -- a request was sent, and then its reply was read, whole, with this body
  pub record IsExchanged (ask : Ask) (due : Due) (body : List ℕ) (old new : Talk S K) : Type 0 where
    pub asked : Talk S K
    pub sent : IsSent ask old asked
    pub came : List ℕ
    pub read : IsRead due asked new came
    pub reply : IsReply due (asked.held ++ came) body new.held

  -- why a request has no reply: it was written in part at most, and nothing was read; or it was sent, and what came is none
  pub data BreaksOff (ask : Ask) (due : Due) (old new : Talk S K) (stop : ReplyStop) : Type 0 where
    in_request : stop ≡ WriteFault → new.src ≡ old.src → AppendsPrefix (told_sink.held old.sink) (told_sink.held new.sink) (request_bytes ask)
        → BreaksOff ask due old new stop
    in_reply : (asked : Talk S K) (came body rest : List ℕ) → IsSent ask old asked → IsRead due asked new came
        → ReadsReply due (asked.held ++ came) body rest (told_source.left new.src) (Err stop) → BreaksOff ask due old new stop

  -- these requests were sent one after another, each once the reply to the one before was read, whole; nothing else was written,
  -- and nothing more was read
  abbrev pub Converses : ℕ → List Ask → Talk S K → Talk S K → Type 0
  Converses k [] old new = new ≡ old
  Converses k (ask ∷ asks) old new = (mid : Talk S K) × (body : List ℕ) × IsExchanged ask (due_of k ask) body old mid × Converses k asks mid new

  -- what came of the next of these requests: it was not begun, or it has no reply for one of these reasons
  abbrev pub LastOf : ℕ → (ReplyStop → Type 0) → Type 0 → List Ask → Talk S K → Talk S K → Type 0
  LastOf k Fits NotBegun [] old new = (new ≡ old) × NotBegun
  LastOf k Fits NotBegun (ask ∷ rest) old new = ((new ≡ old) × NotBegun) ⊎ ((stop : ReplyStop) × Fits stop × BreaksOff ask (due_of k ask) old new stop)

  -- a prefix of these requests have their replies, and what was begun behind them is at most the next one
  pub record StopsIn (k : ℕ) (Fits : ReplyStop → Type 0) (NotBegun : Type 0) (asks : List Ask) (old new : Talk S K) : Type 0 where
    pub done : List Ask
    pub rest : List Ask
    pub are : asks ≡ done ++ rest
    pub mid : Talk S K
    pub conversed : Converses k done old mid
    pub last : LastOf k Fits NotBegun rest mid new
