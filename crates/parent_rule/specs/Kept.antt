-- Four numbers of which some are kept, by four flags that say which: those that aren't blank.
use Rattle.std.specs.Prelude.{◌≡◌, ℕ, ◌+◌, Bool, if◌then◌else◌, List, [], ◌∷◌, ℤ, pos, ◌<ℤ◌, unsigned_abs}
use Rattle.std.specs.Int.{from_bool}
use Rattle.parent_rule.specs.Combined.{mean_of_sum}

-- the numbers that are kept
abbrev pub kept : Bool → ℤ → List ℤ → List ℤ
kept is_kept v vs = if is_kept then v ∷ vs else vs

abbrev pub kept_of_four : Bool → Bool → Bool → Bool → ℤ → ℤ → ℤ → ℤ → List ℤ
kept_of_four keeps_a keeps_b keeps_c keeps_d a b c d = kept keeps_a a (kept keeps_b b (kept keeps_c c (kept keeps_d d [])))

-- how many these are
abbrev pub count_kept : Bool → Bool → Bool → Bool → ℕ
count_kept keeps_a keeps_b keeps_c keeps_d = from_bool keeps_a + from_bool keeps_b + from_bool keeps_c + from_bool keeps_d

-- the mean of so many numbers of a sum, where there is one; below the bound in any case
pub record IsMean (bound : ℕ) (sum count mean : ℤ) : Type 0 where
  pub is : pos 0 <ℤ count → mean ≡ mean_of_sum sum (unsigned_abs count)
  pub below : mean <ℤ pos bound
