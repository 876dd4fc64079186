-- While it was not found, it stands at none of the places so far.
use Rattle.std.proofs.Common.{◌≡◌, ◌≢◌, ◌<◌, ℕ, false}
use Rattle.tile_pixels.specs.Stored.{stored_at}
use Rattle.tile_pixels.proofs.means.holds.Given as goal

abbrev pub invariant-loop-place : goal.invariant-loop-place
invariant-loop-place g l = l.found ≡ false → (k : ℕ) → k < l.place → stored_at g.N.PixelNumber.bits l.row k ≢ g.N.PixelNumber.value l.number
