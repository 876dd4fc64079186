-- How a session ends, by why a record wasn't read, or wasn't answered whole.
use Rattle.std.specs.Prelude.{ℕ, Bool, true, false, Result, Err}
use Rattle.past_frame.specs.declared.record.RecordStop.{RecordStop}
use Rattle.past_frame.specs.declared.record.RecordStop.TheVariants as stop
use Rattle.past_session.specs.declared.ending.Halt.{Halt}
use Rattle.past_session.specs.declared.ending.Halt.TheVariants as halt
use Rattle.past_session.specs.declared.ending.PastEnd.{PastEnd}
use Rattle.past_session.specs.declared.ending.PastEnd.TheVariants.{Done, Cut, BadLine, ReadFault, WriteFault, OutOfMemory}

abbrev pub end_of_stop : RecordStop → ℕ → PastEnd
end_of_stop stop.End at = Done
end_of_stop stop.Cut at = Cut
end_of_stop stop.BadLine at = BadLine at
end_of_stop stop.ReadFault at = ReadFault
end_of_stop stop.OutOfMemory at = OutOfMemory

abbrev pub end_of_halt : Halt → PastEnd
end_of_halt halt.WriteFault = WriteFault
end_of_halt halt.OutOfMemory = OutOfMemory

-- the sink failed in an answer
abbrev pub send_failed : Result (Unit {0}) Halt → Bool
send_failed (Err halt.WriteFault) = true
send_failed _ = false
