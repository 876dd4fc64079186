use Rattle.std.proofs.Common.{◌≡◌, map}
use Rattle.std.specs.List.{range_with_len}
use Rattle.tile_pixels.specs.Stored.{stored_bytes}
use Rattle.survey_make.specs.Script.{number_at}
use Rattle.survey_make.proofs.edit.stored_numbers.Given as goal

abbrev pub invariant-loop-s : goal.invariant-loop-s
invariant-loop-s l = l.raw.items ≡ stored_bytes 16 (map (number_at l.x) (range_with_len 0 l.s))
