use Rattle.std.proofs.Common.{◌≡◌, ◌-◌}
use Rattle.std.specs.Prelude.{map}
use Rattle.edit_journal.specs.Edit.{edit_of}
use Rattle.wal_frame.specs.Payload.{edits_at}
use Rattle.wal_frame.proofs.Loops.{with_front}
use Rattle.wal_frame.proofs.reading.edits_at.Given as goal

abbrev pub invariant-loop : goal.invariant-loop
invariant-loop l = with_front (map edit_of l.edits.items) (edits_at l.shape (l.count - l.counter) l.rest) ≡ edits_at l.shape l.count l.bytes
