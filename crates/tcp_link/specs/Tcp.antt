-- What the proof sees of a door over TCP, which refusals of the system it tries again, and which are out of memory.
use Rattle.std.specs.Prelude.{◌≡◌, ℕ, Bool, true, false, Option, Some, None, ⊤}
use Rattle.std.specs.IoError.{error_kind}
use Rattle.std.specs.declared.io.ErrorKind.{ErrorKind}
use Rattle.std.specs.declared.io.ErrorKind.TheVariants.{Interrupted, ConnectionAborted, OutOfMemory}
use Rattle.tcp_link.specs.declared.refusal.Refusal.{Refusal}
use Rattle.tcp_link.specs.declared.refusal.Refusal.TheVariants.{Listen, Accept, Split}

-- a door, as the program sees it: how often it has failed, how often it had no memory to accept a connection, and what it was
-- last refused
pub record DoorState : Type 0 where
  pub faults : ℕ
  pub memory_faults : ℕ
  pub refusal : Option Refusal

-- an error after which the call is made again: the system interrupted it, or its client has gone
abbrev pub passes : ErrorKind → Bool
passes Interrupted = true
passes ConnectionAborted = true
passes _ = false

-- an error that says that memory ran out, the program's own or the system's
abbrev pub is_out_of_memory : ErrorKind → Bool
is_out_of_memory OutOfMemory = true
is_out_of_memory _ = false

-- a refusal that stops an accept: not that of one which passes
abbrev pub Lasts : Refusal → Type 0
Lasts (Accept error) = passes (error_kind error) ≡ false
Lasts _ = ⊤

-- a refusal because memory ran out
abbrev pub says_out_of_memory : Refusal → Bool
says_out_of_memory (Listen error) = is_out_of_memory (error_kind error)
says_out_of_memory (Accept error) = is_out_of_memory (error_kind error)
says_out_of_memory (Split error) = is_out_of_memory (error_kind error)

-- a refusal for which an accept fails: one that stops it, and not because memory ran out
abbrev pub FailsAccept : Option Refusal → Type 0
FailsAccept None = ⊥
FailsAccept (Some refusal) = Lasts refusal × (says_out_of_memory refusal ≡ false)

-- a refusal for which an accept finds no memory
abbrev pub RunsOutOfMemory : Option Refusal → Type 0
RunsOutOfMemory None = ⊥
RunsOutOfMemory (Some refusal) = says_out_of_memory refusal ≡ true

-- a refusal to listen
abbrev pub StopsListening : Option Refusal → Type 0
StopsListening (Some (Listen _)) = ⊤
StopsListening _ = ⊥
