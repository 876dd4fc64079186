use Rattle.std.proofs.Common.{◌≡◌, ◌≤◌, ◌++◌, take, vec_len, vec_capacity}
use Rattle.survey_link.specs.Link.{parts_bytes}
use Rattle.memory_link.proofs.mem_sink.extend_within.Given as goal

abbrev pub invariant-loop-part : goal.invariant-loop-part
invariant-loop-part l = record {
  bytes : l.bytes.items ≡ take l.room (l.initial.bytes.items ++ parts_bytes (take l.part-index l.parts));
  held : vec_len l.bytes ≤ l.room;
  capacity : vec_capacity l.initial.bytes ≤ vec_capacity l.bytes;
}
