-- What the pass over the cards knows after some of them.
use Rattle.std.specs.Prelude.{◌≡◌, ℕ, ◌+◌, false, List, take, find}
use Rattle.std.specs.List.{list_any, range_with_len}
use Rattle.std.specs.Option.{option_map}
use Rattle.fits_header.specs.Reading.{begins_simple, values, is_bad, repeats}
use Rattle.fits_header.specs.declared.scan.Scan.{Scan}

-- the first n of these cards were taken, and none was bad
pub record IsScanned (cards : List (List ℕ)) (n : ℕ) (scan : Scan) : Type 0 where
  pub header : scan.header ≡ values (begins_simple cards) (take n cards)
  pub good : list_any is_bad (take n cards) ≡ false
  pub repeated : scan.repeated ≡ option_map (λ i. i + 1) (find (repeats cards) (range_with_len 0 n))
