-- What follows from the definition of `combined`, for those who combine: four blank numbers give the blank number, and
-- numbers of a width give a number of that width.
use Rattle.std.proofs.Common.{◌≡◌, ℕ, suc, ◌+◌, ◌*◌, ◌<◌, ◌≤◌, ◌-◌, ◌/◌, true, false, cond, not, List, [], ◌∷◌, length, get_or, All, refl, ap, arith, mul-le-mul_left, ℤ, pos, negsuc, ◌+ℤ◌, ◌*ℤ◌, ◌≤ℤ◌, ◌<ℤ◌}
use Rattle.std.proofs.lemmas.Int.{ints, by_lt_z}
use Rattle.std.proofs.lemmas.List.Elements.{All-head, All-tail, All-cons, All-get_or, All-filter, filter_passes}
use Rattle.std.proofs.lemmas.Bool.Decides.{Decides-int_eq}
use Rattle.std.specs.Int.{int_div_euclid}
use Rattle.std.specs.Bool.{Decides}
use Rattle.std.specs.Ordering.{int_eq}
use Rattle.std.specs.Prelude.{int_le}
use borrow.Author.Differences.{up, down}
use Rattle.parent_rule.specs.Depth.{IsNumber, least_number, greatest_number}
use Rattle.parent_rule.specs.Combined.{combined, combined_of, not_blank, int_sum, mean_of_sum, rounded_mean, mean_beside_blank, placed, ascending, lower_median}
use Rattle.parent_rule.specs.declared.combine.Combine.{Combine}
use Rattle.parent_rule.specs.declared.combine.Combine.TheVariants.{Mean, Median}

-- a quotient q that rounds down has k * q ≤ a < k * q + k
pub rounds_down : (a : ℤ) (k : ℕ) → 0 < k → (up (int_div_euclid a (pos k)) * k + down a ≤ down (int_div_euclid a (pos k)) * k + up a) × (down (int_div_euclid a (pos k)) * k + up a < up (int_div_euclid a (pos k)) * k + down a + k)
rounds_down (pos a) k h = omega arith
rounds_down (negsuc a) k h = omega arith

-- a mean is no less than what each number is no less than, and no more than what each is no more than
pub mean_of_sum-low : (sum low : ℤ) (n : ℕ) → 0 < n → (pos n *ℤ low) ≤ℤ sum → low ≤ℤ mean_of_sum sum n
mean_of_sum-low sum low n some h =
    let q : ℤ = mean_of_sum sum n in
    by_lt_z q low
    (λ less.
    let parts : (up q * (2 * n) + down (pos 2 *ℤ sum +ℤ pos n) ≤ down q * (2 * n) + up (pos 2 *ℤ sum +ℤ pos n)) × (down q * (2 * n) + up (pos 2 *ℤ sum +ℤ pos n) < up q * (2 * n) + down (pos 2 *ℤ sum +ℤ pos n) + 2 * n) = rounds_down (pos 2 *ℤ sum +ℤ pos n) (2 * n) (omega arith) in
    let below : up q + down low + 1 ≤ down q + up low = omega (arith, ints) in
    let times : n * (up q + down low + 1) ≤ n * (down q + up low) = mul-le-mul_left n below in
    absurd (omega (arith, ints, times, parts)))
    (λ le. le)

pub mean_of_sum-high : (sum high : ℤ) (n : ℕ) → 0 < n → sum ≤ℤ (pos n *ℤ high) → mean_of_sum sum n ≤ℤ high
mean_of_sum-high sum high n some h =
    let q : ℤ = mean_of_sum sum n in
    by_lt_z high q
    (λ less.
    let parts : (up q * (2 * n) + down (pos 2 *ℤ sum +ℤ pos n) ≤ down q * (2 * n) + up (pos 2 *ℤ sum +ℤ pos n)) × (down q * (2 * n) + up (pos 2 *ℤ sum +ℤ pos n) < up q * (2 * n) + down (pos 2 *ℤ sum +ℤ pos n) + 2 * n) = rounds_down (pos 2 *ℤ sum +ℤ pos n) (2 * n) (omega arith) in
    let above : up high + down q + 1 ≤ down high + up q = omega (arith, ints) in
    let times : n * (up high + down q + 1) ≤ n * (down high + up q) = mul-le-mul_left n above in
    absurd (omega (arith, ints, times, parts)))
    (λ le. le)

-- the same of a sum, count by count
sum_low : (low : ℤ) (vs : List ℤ) → All (λ v. low ≤ℤ v) vs → (pos (length vs) *ℤ low) ≤ℤ int_sum vs
sum_low low [] all = omega (arith, ints)
sum_low low (v ∷ vs) all =
    let rest : (pos (length vs) *ℤ low) ≤ℤ int_sum vs = sum_low low vs (All-tail (λ v. low ≤ℤ v) v vs all) in
    let first : low ≤ℤ v = All-head (λ v. low ≤ℤ v) v vs all in
    omega (arith, ints)

sum_high : (high : ℤ) (vs : List ℤ) → All (λ v. v ≤ℤ high) vs → int_sum vs ≤ℤ (pos (length vs) *ℤ high)
sum_high high [] all = omega (arith, ints)
sum_high high (v ∷ vs) all =
    let rest : int_sum vs ≤ℤ (pos (length vs) *ℤ high) = sum_high high vs (All-tail (λ v. v ≤ℤ high) v vs all) in
    let first : v ≤ℤ high = All-head (λ v. v ≤ℤ high) v vs all in
    omega (arith, ints)

-- and of the mean of a list
pub rounded_mean-low : (low : ℤ) (vs : List ℤ) → 0 < length vs → All (λ v. low ≤ℤ v) vs → low ≤ℤ rounded_mean vs
rounded_mean-low low vs some all = mean_of_sum-low (int_sum vs) low (length vs) some (sum_low low vs all)

pub rounded_mean-high : (high : ℤ) (vs : List ℤ) → 0 < length vs → All (λ v. v ≤ℤ high) vs → rounded_mean vs ≤ℤ high
rounded_mean-high high vs some all = mean_of_sum-high (int_sum vs) high (length vs) some (sum_high high vs all)

-- where numbers that aren't blank have the blank number for their mean, it is below what they are at most
pub blank_below : (blank high : ℤ) (vs : List ℤ) → 0 < length vs → All (λ v. v ≤ℤ high) vs → All (λ v. not (int_eq v blank) ≡ true) vs → rounded_mean vs ≡ blank → blank <ℤ high
blank_below blank high vs some all other is =
    by_lt_z blank high (λ less. less)
    (λ le.
    let below : All (λ v. v ≤ℤ (blank +ℤ negsuc 0)) vs =
    λ k d h.
    let at : get_or vs k d ≤ℤ high = all k d h in
    let not_at : not (int_eq (get_or vs k d) blank) ≡ true = other k d h in
    grind (arith, ints)
    in
    let mean : rounded_mean vs ≤ℤ (blank +ℤ negsuc 0) = rounded_mean-high (blank +ℤ negsuc 0) vs some below in
    absurd (omega (arith, ints)))

-- to order numbers keeps how many they are, and what is true of each
length-placed : (v : ℤ) (ws : List ℤ) → length (placed v ws) ≡ suc (length ws)
length-placed v [] = refl
length-placed v (w ∷ ws) =
    elim (int_le v w) as (λ b. length (cond b (v ∷ w ∷ ws) (w ∷ placed v ws)) ≡ suc (suc (length ws))) [
      | true ↦ refl
      | false ↦ ap suc (length-placed v ws)
    ]

pub length-ascending : (vs : List ℤ) → length (ascending vs) ≡ length vs
length-ascending [] = refl
length-ascending (v ∷ vs) = rw (length-placed v (ascending vs)) (ap suc (length-ascending vs))

All-placed : (P : ℤ → Type 0) (v : ℤ) (ws : List ℤ) → P v → All P ws → All P (placed v ws)
All-placed P v [] this all = All-cons P v [] this all
All-placed P v (w ∷ ws) this all =
    elim (int_le v w) as (λ b. All P (cond b (v ∷ w ∷ ws) (w ∷ placed v ws))) [
      | true ↦ All-cons P v (w ∷ ws) this all
      | false ↦ All-cons P w (placed v ws) (All-head P w ws all) (All-placed P v ws this (All-tail P w ws all))
    ]

All-ascending : (P : ℤ → Type 0) (vs : List ℤ) → All P vs → All P (ascending vs)
All-ascending P [] all = all
All-ascending P (v ∷ vs) all = All-placed P v (ascending vs) (All-head P v vs all) (All-ascending P vs (All-tail P v vs all))

-- a median is one of the numbers
pub All-lower_median : (P : ℤ → Type 0) (blank : ℤ) (vs : List ℤ) → 0 < length vs → All P vs → P (lower_median blank vs)
All-lower_median P blank vs some all =
    All-get_or P (ascending vs) ((length vs - 1) / 2) blank (rw (length-ascending vs) (omega arith)) (All-ascending P vs all)

-- a mean of numbers of a width is one too, also where it is moved off the blank number
mean-number : (bits : ℕ) (blank : ℤ) (vs : List ℤ) → 0 < length vs → IsNumber bits blank → All (IsNumber bits) vs → All (λ v. not (int_eq v blank) ≡ true) vs → IsNumber bits (mean_beside_blank blank vs)
mean-number bits blank vs some of all other =
    let low : least_number bits ≤ℤ rounded_mean vs = rounded_mean-low (least_number bits) vs some (λ k d h. (all k d h).low) in
    let high : rounded_mean vs ≤ℤ greatest_number bits = rounded_mean-high (greatest_number bits) vs some (λ k d h. (all k d h).high) in
    elim (int_eq (rounded_mean vs) blank) as (λ b. Decides b (rounded_mean vs ≡ blank) → IsNumber bits (cond b (blank +ℤ pos 1) (rounded_mean vs))) [
      | true ↦ λ same.
          let below : blank <ℤ greatest_number bits = blank_below blank (greatest_number bits) vs some (λ k d h. (all k d h).high) other (same.0 refl) in
          record {
            low = omega (arith, ints);
            high = omega (arith, ints);
          }
      | false ↦ λ _. record { low = low; high = high }
    ] (Decides-int_eq (rounded_mean vs) blank)

-- numbers of a width that aren't blank, combined
pub combined_of-number : (way : Combine) (bits : ℕ) (blank : ℤ) (vs : List ℤ) → IsNumber bits blank → All (IsNumber bits) vs → All (λ v. not (int_eq v blank) ≡ true) vs → IsNumber bits (combined_of way blank vs)
combined_of-number way bits blank [] of all other = of
combined_of-number Mean bits blank (v ∷ vs) of all other = mean-number bits blank (v ∷ vs) (omega arith) of all other
combined_of-number Median bits blank (v ∷ vs) of all other = All-lower_median (IsNumber bits) blank (v ∷ vs) (omega arith) all

-- numbers of a width give a number of that width
pub combined-number : (way : Combine) (bits : ℕ) (blank : ℤ) (four : List ℤ) → IsNumber bits blank → All (IsNumber bits) four → IsNumber bits (combined way blank four)
unfolding combined
combined-number way bits blank four of all =
    combined_of-number way bits blank (not_blank blank four) of
    (All-filter (λ v. not (int_eq v blank)) (IsNumber bits) four all)
    (filter_passes (λ v. not (int_eq v blank)) four)

-- a number equals itself
pub int_eq-self : (v : ℤ) → int_eq v v ≡ true
int_eq-self v = grind (arith, ints)

-- four blank numbers give the blank number
pub combined-blank : (way : Combine) (blank : ℤ) → combined way blank (blank ∷ blank ∷ blank ∷ blank ∷ []) ≡ blank
unfolding combined
combined-blank way blank =
    let none : not_blank blank (blank ∷ blank ∷ blank ∷ blank ∷ []) ≡ [] = simp int_eq-self in
    ap (combined_of way blank) none
