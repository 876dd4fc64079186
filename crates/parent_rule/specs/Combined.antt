-- How the numbers of four pixels become that of the pixel above them, over the integers with no width. HiPS 1.0
-- (section 4.2) leaves the way to the producer: here it is the mean, or the lower median.
use Rattle.std.specs.Prelude.{ℕ, ◌+◌, ◌-◌, ◌*◌, ◌/◌, not, List, [], ◌∷◌, length, filter, if◌then◌else◌, ℤ, pos, ◌+ℤ◌, ◌*ℤ◌, slice_index_or, int_le}
use Rattle.std.specs.Int.{int_div_euclid}
use Rattle.std.specs.Ordering.{int_eq}
use Rattle.parent_rule.specs.declared.combine.Combine.{Combine}
use Rattle.parent_rule.specs.declared.combine.Combine.TheVariants.{Mean, Median}

-- those of the numbers that are not blank
abbrev pub not_blank : ℤ → List ℤ → List ℤ
not_blank blank vs = filter (λ v. not (int_eq v blank)) vs

abbrev pub int_sum : List ℤ → ℤ
int_sum [] = pos 0
int_sum (v ∷ vs) = v +ℤ int_sum vs

-- the mean of so many numbers of a sum, rounded half up: (2 * sum + count) / (2 * count), rounded down
abbrev pub mean_of_sum : ℤ → ℕ → ℤ
mean_of_sum sum count = int_div_euclid (pos 2 *ℤ sum +ℤ pos count) (pos (2 * count))

abbrev pub rounded_mean : List ℤ → ℤ
rounded_mean vs = mean_of_sum (int_sum vs) (length vs)

-- a mean that is the blank number is one more, so that it does not read as blank
abbrev pub mean_beside_blank : ℤ → List ℤ → ℤ
mean_beside_blank blank vs = if int_eq (rounded_mean vs) blank then blank +ℤ pos 1 else rounded_mean vs

-- the numbers in ascending order, repeats kept
abbrev pub placed : ℤ → List ℤ → List ℤ
placed v [] = v ∷ []
placed v (w ∷ ws) = if int_le v w then v ∷ w ∷ ws else w ∷ placed v ws

abbrev pub ascending : List ℤ → List ℤ
ascending [] = []
ascending (v ∷ vs) = placed v (ascending vs)

-- the item (count - 1) / 2, from 0, of the numbers in ascending order
abbrev pub lower_median : ℤ → List ℤ → ℤ
lower_median blank vs = slice_index_or (ascending vs) ((length vs - 1) / 2) blank

-- some numbers by the way to combine, and blank where there is none
abbrev pub combined_of : Combine → ℤ → List ℤ → ℤ
combined_of way blank [] = blank
combined_of Mean blank (v ∷ vs) = mean_beside_blank blank (v ∷ vs)
combined_of Median blank (v ∷ vs) = lower_median blank (v ∷ vs)

-- the number of the pixel above four pixels: their numbers without the blank ones, combined
unfoldable pub combined : Combine → ℤ → List ℤ → ℤ
combined way blank four = combined_of way blank (not_blank blank four)

-- the number at a place of a row
abbrev pub number_at : List ℤ → ℕ → ℤ
number_at row i = slice_index_or row i (pos 0)

-- the numbers at places 2i and 2i + 1 of two rows, in the order of the four children: by columns, each from the top
abbrev pub square_at : List ℤ → List ℤ → ℕ → List ℤ
square_at top bottom i = number_at top (2 * i) ∷ number_at bottom (2 * i) ∷ number_at top (2 * i + 1) ∷ number_at bottom (2 * i + 1) ∷ []
