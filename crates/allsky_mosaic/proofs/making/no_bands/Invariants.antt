use Rattle.std.proofs.Common.{◌≡◌, vec_len}
use Rattle.allsky_mosaic.proofs.making.no_bands.Given as goal

abbrev pub invariant-loop : goal.invariant-loop
invariant-loop l = vec_len l.made ≡ l.counter
