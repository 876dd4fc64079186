-- What a file without a fault of the data has room for.
use Rattle.std.proofs.Common.{◌≡◌, ℕ, ◌≤◌, Bool, true, false, Option, Some, None, refl, arith}
use Rattle.std.specs.Prelude.{nat_lt, if◌then◌else◌}
use Rattle.std.proofs.lemmas.Bool.Decides.{nat_tests}
use Rattle.pyramid_model.specs.Shape.{PyramidShape}
use Rattle.fits_tile.specs.TileFile.{data_len}
use Rattle.fits_tile.specs.Reading.{data_fault}
use Rattle.fits_tile.specs.declared.fault.TileFault.{TileFault}

-- a file without a fault of the data has all of it
pub data-within : (shape : PyramidShape) (count : ℕ) → data_fault shape count ≡ None → data_len shape ≤ count
unfolding data_fault
data-within shape count none = by _ _ (nat_lt count (data_len shape)) refl none
  where
    by : (fault : TileFault) (other : Option TileFault) (short : Bool) → nat_lt count (data_len shape) ≡ short → (if short then Some fault else other) ≡ None → data_len shape ≤ count
    by fault other true short e = absurd cc
    by fault other false short e = grind (arith, nat_tests)
