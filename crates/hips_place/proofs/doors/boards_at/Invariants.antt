use Rattle.std.proofs.Common.{◌≡◌, map}
use Rattle.reader_pin.specs.Shared.{seated}
use Rattle.hips_place.proofs.doors.boards_at.Given as goal

abbrev pub invariant-loop-seat : goal.invariant-loop-seat
invariant-loop-seat g l = l.boards.items ≡ map seated l.yielded
