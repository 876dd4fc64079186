use Rattle.std.proofs.Common.{◌≡◌, ◌*◌, ◌/◌, take}
use Rattle.tile_pixels.specs.Stored.{stored_bytes}
use Rattle.tile_pixels.proofs.row.write_each.Given as goal

abbrev pub invariant-loop-i : goal.invariant-loop-i
invariant-loop-i g l = take (l.i * (g.N.PixelNumber.bits / 8)) l.bytes ≡ stored_bytes g.N.PixelNumber.bits (take l.i l.numbers)
