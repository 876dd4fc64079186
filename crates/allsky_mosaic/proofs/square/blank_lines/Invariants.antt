use Rattle.std.proofs.Common.{◌≡◌, ℕ, ◌*◌, ◌/◌, ◌<◌, length}
use Rattle.tile_pixels.specs.Stored.{stored_at}
use Rattle.allsky_mosaic.proofs.square.blank_lines.Given as goal

abbrev pub invariant-loop : goal.invariant-loop
invariant-loop l = (length l.raw.items ≡ l.counter * l.side * (l.fn.depth.bitpix / 8))
    × ((place : ℕ) → place < l.counter * l.side → stored_at l.fn.depth.bitpix l.raw.items place ≡ l.fn.depth.blank)
