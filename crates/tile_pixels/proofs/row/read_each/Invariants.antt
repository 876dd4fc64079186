use Rattle.std.proofs.Common.{◌≡◌, ◌<◌, ℕ, get_or, pos}
use Rattle.tile_pixels.specs.Stored.{stored_at}
use Rattle.tile_pixels.proofs.row.read_each.Given as goal

abbrev pub invariant-loop-i : goal.invariant-loop-i
invariant-loop-i g l = (k : ℕ) → k < l.i → get_or l.numbers k (pos 0) ≡ stored_at g.N.PixelNumber.bits l.bytes k
