-- The worked examples of the definition: what four numbers give, by the mean and by the lower median.
use Rattle.std.proofs.Common.{◌≡◌, ◌-◌, ◌^◌, [], ◌∷◌, refl, ℤ, pos, negsuc}
use Rattle.parent_rule.specs.Combined.{combined}
use Rattle.parent_rule.specs.declared.combine.Combine.TheVariants.{Mean, Median}

-- -1, -2 and the least number of 16 bits
abbrev minus_1 : ℤ
minus_1 = negsuc 0

abbrev minus_2 : ℤ
minus_2 = negsuc 1

abbrev blank : ℤ
blank = negsuc 32767

-- the ends of 64 bits
abbrev least : ℤ
least = negsuc (2 ^ 63 - 1)

abbrev greatest : ℤ
greatest = pos (2 ^ 63 - 1)

pub mean_of_two : combined Mean blank (pos 1 ∷ pos 2 ∷ blank ∷ blank ∷ []) ≡ pos 2
unfolding combined
mean_of_two = refl

pub mean_of_negative_two : combined Mean blank (minus_1 ∷ minus_2 ∷ blank ∷ blank ∷ []) ≡ minus_1
unfolding combined
mean_of_negative_two = refl

pub mean_of_four : combined Mean blank (pos 1 ∷ pos 2 ∷ pos 3 ∷ pos 5 ∷ []) ≡ pos 3
unfolding combined
mean_of_four = refl

pub mean_of_none : combined Mean blank (blank ∷ blank ∷ blank ∷ blank ∷ []) ≡ blank
unfolding combined
mean_of_none = refl

pub mean_beside_zero : combined Mean (pos 0) (minus_1 ∷ pos 1 ∷ pos 0 ∷ pos 0 ∷ []) ≡ pos 1
unfolding combined
mean_beside_zero = refl

pub mean_of_greatest : combined Mean least (greatest ∷ greatest ∷ greatest ∷ greatest ∷ []) ≡ greatest
unfolding combined
mean_of_greatest = refl

pub median_of_four : combined Median blank (pos 1 ∷ pos 2 ∷ pos 3 ∷ pos 5 ∷ []) ≡ pos 2
unfolding combined
median_of_four = refl

pub median_of_negative_two : combined Median blank (minus_1 ∷ minus_2 ∷ blank ∷ blank ∷ []) ≡ minus_2
unfolding combined
median_of_negative_two = refl

pub median_of_one : combined Median blank (pos 7 ∷ blank ∷ blank ∷ blank ∷ []) ≡ pos 7
unfolding combined
median_of_one = refl

pub median_of_none : combined Median blank (blank ∷ blank ∷ blank ∷ blank ∷ []) ≡ blank
unfolding combined
median_of_none = refl
