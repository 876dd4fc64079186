use Rattle.std.proofs.Common.{◌≡◌, ℕ, ◌+◌, ◌-◌, ◌*◌, ◌<◌}
use Rattle.tile_pixels.specs.Stored.{stored_at}
use Rattle.allsky_mosaic.specs.Cells.{number_over}
use Rattle.allsky_mosaic.proofs.square.halve_lines.Given as goal

abbrev pub invariant-loop-t : goal.invariant-loop-t
invariant-loop-t l = (p column : ℕ) → p < l.t → column < l.side → stored_at l.fn.depth.bitpix l.half (p * l.side + column) ≡ number_over l.fn.depth l.side l.square column (l.side - 1 - p)
