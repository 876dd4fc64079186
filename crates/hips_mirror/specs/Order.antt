-- The order of a copy's requests and replies: each request is sent once the reply to the one before was read, and nothing
-- else is written or read. It holds whatever the proof sees of the ends. That it is so also where the very next reading or
-- writing fails, which nobody can know before, is what keeps a request from being sent early.
use Rattle.std.specs.Prelude.{◌⊎◌, ◌≢◌, ℕ, List, [], Result, Ok, Err}
use Rattle.survey_link.specs.declared.source.Source as source
use Rattle.survey_link.specs.declared.sink.Sink as sink
use Rattle.mirror_frame.specs.Requests.{asks}
use Rattle.mirror_frame.specs.Exchange.{Talk, Converses, StopsIn}
use Rattle.hips_mirror.specs.Stages.{Tells, IsOfBody}
use Rattle.hips_mirror.specs.declared.refusal.MirrorRefusal.{MirrorRefusal}

module _ {S K : Type 0} (told_source : source.Ghosts S) (told_sink : sink.Ghosts K) where
  -- the requests of a copy of these leaves of order `top`, of the state with k edits, all have their replies
  pub record IsWhole (old new : Talk S K) : Type 0 where
    pub k : ℕ
    pub top : ℕ
    pub leaves : List ℕ
    pub conversed : Converses told_source told_sink k (asks top leaves) old new

  -- a prefix of them has, the next one is begun at most, and one at least has no reply
  pub record IsBrokenOff (why : MirrorRefusal) (old new : Talk S K) : Type 0 where
    pub k : ℕ
    pub top : ℕ
    pub leaves : List ℕ
    pub stops : StopsIn told_source told_sink k (Tells why) (IsOfBody why) (asks top leaves) old new
    pub short : stops.rest ≢ []

  abbrev pub InOrder : {T : Type 0} → Talk S K → Talk S K → Result T MirrorRefusal → Type 0
  InOrder old new (Ok done) = IsWhole old new
  InOrder old new (Err why) = IsBrokenOff why old new ⊎ IsWhole old new
