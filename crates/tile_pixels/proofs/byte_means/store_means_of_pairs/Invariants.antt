-- The numbers so far are stored.
use Rattle.std.proofs.Common.{◌≡◌, ◌*◌, ◌/◌, length, take, pos}
use Rattle.parent_rule.specs.declared.combine.Combine.TheVariants.{Mean}
use Rattle.tile_pixels.specs.Stored.{stored_bytes}
use Rattle.tile_pixels.specs.Lines.{row_above}
use Rattle.tile_pixels.proofs.byte_means.store_means_of_pairs.Given as goal

abbrev pub invariant-loop-i : goal.invariant-loop-i
invariant-loop-i l = take (l.i * (8 / 8)) l.out ≡ stored_bytes 8 (take l.i (row_above Mean 8 (pos l.blank) (length l.fn.out) l.top l.bottom))
