-- The numbers so far are stored.
use Rattle.std.proofs.Common.{◌≡◌, ◌*◌, ◌/◌, take}
use Rattle.parent_rule.specs.declared.combine.Combine.TheVariants.{Mean}
use Rattle.tile_pixels.specs.Stored.{stored_bytes}
use Rattle.tile_pixels.specs.Lines.{row_above}
use Rattle.tile_pixels.proofs.full_means.store_full_means.Given as goal

abbrev pub invariant-loop-i : goal.invariant-loop-i
invariant-loop-i g l = take (l.i * (g.N.PixelNumber.bits / 8)) l.out ≡ stored_bytes g.N.PixelNumber.bits (take l.i (row_above Mean g.N.PixelNumber.bits (g.N.PixelNumber.value l.blank) l.count l.top l.bottom))
