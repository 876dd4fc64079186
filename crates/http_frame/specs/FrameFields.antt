-- What the fields of a frame mean, and what is kept of them.
use Rattle.std.specs.Prelude.{◌≡◌, ℕ, ◌+◌, ◌^◌, ◌≤◌, ◌⊎◌, if◌then◌else◌, List, Some, None, Result, Ok, Err, vec_capacity, ⊤}
use Rattle.http_frame.specs.declared.stop.Turn.{Turn}
use Rattle.http_frame.specs.declared.stop.Turn.TheVariants.{AtHead, AtBody, Stopped}
use Rattle.http_frame.specs.declared.frame.Frame.TheInside.{Inside}
use Rattle.http_frame.specs.Next.{most_head}
use Rattle.survey_link.specs.Inbox.{held, given, size}
use Rattle.http_frame.specs.Frame.{FrameState}

abbrev pub shown : Inside → FrameState
shown f = record {
  held = held f.buffer;
  path = if f.has_path then Some f.path.items else None;
  body = given f.given f.buffer;
  turn = f.turn;
  room = f.room;
}

-- where the bytes held may lie in a buffer with room for a head and a body: before a head they are none, or in the head's
-- part; before a body there is room for it behind them
abbrev pub KeepsTurn : Turn → ℕ → ℕ → ℕ → Type 0
KeepsTurn AtHead room from to = (from ≡ to) ⊎ (to ≤ most_head)
KeepsTurn (AtBody n) room from to = (to ≤ most_head) × (n ≤ room)
KeepsTurn (Stopped stop) room from to = ⊤

pub record KeepsPlaces (f : Inside) : Type 0 where
  pub most_room : f.room ≤ 2 ^ 30
  pub size_is : size f.buffer ≡ most_head + f.room
  pub given : f.given ≤ f.buffer.start
  pub path_room : most_head ≤ vec_capacity f.path
  pub in_turn : KeepsTurn f.turn f.room f.buffer.start f.buffer.end

-- the bytes in place of `()`
abbrev pub with_bytes : {T E : Type 0} → Result T E → List ℕ → Result (List ℕ) E
with_bytes (Ok _) bytes = Ok bytes
with_bytes (Err error) bytes = Err error
