use Rattle.std.proofs.Common.{◌≡◌, ◌≢◌, ℕ, ◌+◌, ◌*◌, ◌<◌}
use Rattle.tile_pixels.specs.Stored.{stored_at}
use Rattle.allsky_mosaic.specs.Cells.{band_number}
use Rattle.allsky_mosaic.proofs.square.write_square.Given as goal

abbrev pub invariant-loop-t : goal.invariant-loop-t
invariant-loop-t l = ((t column : ℕ) → t < l.t → column < l.side → band_number l.fn.depth.bitpix l.side l.band l.col t column ≡ stored_at l.fn.depth.bitpix l.square (t * l.side + column))
    × ((t other column : ℕ) → t < l.side → other < 27 → other ≢ l.col → column < l.side → band_number l.fn.depth.bitpix l.side l.band other t column ≡ band_number l.fn.depth.bitpix l.side l.initial.band other t column)
