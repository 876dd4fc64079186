-- The mean of four numbers of which some are blank: by the sum of those that are kept, each raised.
use Rattle.std.proofs.Common.{◌≡◌, ℕ, zero, suc, ◌+◌, ◌*◌, ◌<◌, ◌≤◌, Bool, IsTrue, List, [], ◌∷◌, length, true, false, cond, not, refl, sym, ap, ◌∙◌, arith, ℤ, pos, ◌+ℤ◌, ◌*ℤ◌, ◌≤ℤ◌, ◌<ℤ◌}
use Rattle.std.proofs.lemmas.Int.{ints, clamps}
use Rattle.std.proofs.lemmas.List.Elements.{All-filter, filter_passes}
use Rattle.std.specs.Int.{from_bool, int_min}
use Rattle.std.specs.Ordering.{int_eq}
use Rattle.std.specs.Bool.{Decides}
use Rattle.std.proofs.lemmas.Bool.Decides.{Decides-int_eq}
use Rattle.parent_rule.specs.Depth.{IsNumber, greatest_number}
use Rattle.parent_rule.specs.Combined.{combined, not_blank, int_sum, mean_of_sum, rounded_mean}
use Rattle.parent_rule.specs.Kept.{kept, kept_of_four, count_kept}
use Rattle.parent_rule.specs.CombinedLaws.{rounds_down, blank_below}
use Rattle.parent_rule.specs.declared.combine.Combine.{Combine}
use Rattle.parent_rule.specs.declared.combine.Combine.TheVariants.{Mean}
use Rattle.parent_rule.proofs.Cases.{combined_none, combined_mean}
use Rattle.parent_rule.proofs.Rows.{All-four}

-- one number more
sum_more : (f : Bool) (v : ℤ) (vs : List ℤ) → int_sum (kept f v vs) ≡ cond f v (pos 0) +ℤ int_sum vs
sum_more true v vs = refl
sum_more false v vs = omega (arith, ints)

length_more : (f : Bool) (v : ℤ) (vs : List ℤ) → length (kept f v vs) ≡ from_bool f + length vs
length_more true v vs = omega arith
length_more false v vs = omega arith

pub at_most_one : (b : Bool) → from_bool b ≤ 1
at_most_one true = omega arith
at_most_one false = omega arith

pub length_kept : (fa fb fc fd : Bool) (a b c d : ℤ) → length (kept_of_four fa fb fc fd a b c d) ≡ count_kept fa fb fc fd
length_kept fa fb fc fd a b c d =
    let l1 : length (kept_of_four fa fb fc fd a b c d) ≡ from_bool fa + length (kept fb b (kept fc c (kept fd d []))) = length_more fa a (kept fb b (kept fc c (kept fd d []))) in
    let l2 : length (kept fb b (kept fc c (kept fd d []))) ≡ from_bool fb + length (kept fc c (kept fd d [])) = length_more fb b (kept fc c (kept fd d [])) in
    let l3 : length (kept fc c (kept fd d [])) ≡ from_bool fc + length (kept fd d []) = length_more fc c (kept fd d []) in
    let l4 : length (kept fd d []) ≡ from_bool fd + 0 = length_more fd d [] in
    rw (l1, l2, l3, l4) (omega arith)

-- a raised number is the number, and what each that is kept is raised by
weight : (raise : ℕ) (f : Bool) (v r : ℤ) → r ≡ cond f (v +ℤ pos raise) (pos 0) → r ≡ cond f v (pos 0) +ℤ pos (raise * from_bool f)
weight raise true v r is = is ∙ omega (arith, ints)
weight raise false v r is = is ∙ omega (arith, ints)

mul-four : (k a b c d : ℕ) → k * (a + b + c + d) ≡ k * a + k * b + k * c + k * d
mul-four k a b c d = grind arith

four_sums : (sa sb sc sd : ℤ) (pa pb pc pd : ℕ) (a b c d : ℤ) → sa ≡ a +ℤ pos pa → sb ≡ b +ℤ pos pb → sc ≡ c +ℤ pos pc → sd ≡ d +ℤ pos pd → sa +ℤ sb +ℤ sc +ℤ sd ≡ a +ℤ (b +ℤ (c +ℤ (d +ℤ pos 0))) +ℤ pos (pa + pb + pc + pd)
four_sums sa sb sc sd pa pb pc pd a b c d ea eb ec ed = omega (arith, ints)

-- four numbers, each at most so much where it is kept
pub room_of_four : (most a b c d : ℕ) (sa sb sc sd : ℤ) → sa ≤ℤ (pos most *ℤ pos a) → sb ≤ℤ (pos most *ℤ pos b) → sc ≤ℤ (pos most *ℤ pos c) → sd ≤ℤ (pos most *ℤ pos d) → (sa +ℤ sb +ℤ sc +ℤ sd) ≤ℤ (pos most *ℤ pos (a + b + c + d))
room_of_four most a b c d sa sb sc sd ra rb rc rd =
    let products = mul-four most a b c d in omega (arith, ints, products)

-- the mean of a sum that was raised by as much for each number
shifted : (s : ℤ) (raise : ℕ) (sum : ℤ) (count : ℕ) (mean : ℤ) → 0 < count → count ≤ 4 → sum ≡ s +ℤ pos (raise * count) → mean +ℤ pos raise ≡ mean_of_sum sum count → mean ≡ mean_of_sum s count
shifted s raise sum zero mean some four is at = absurd (omega arith)
shifted s raise sum (suc zero) mean some four is at =
    let parts = rounds_down (pos 2 *ℤ s +ℤ pos 1) 2 (omega arith) in
    let raised = rounds_down (pos 2 *ℤ sum +ℤ pos 1) 2 (omega arith) in
    omega (arith, ints, parts, raised)
shifted s raise sum (suc (suc zero)) mean some four is at =
    let parts = rounds_down (pos 2 *ℤ s +ℤ pos 2) 4 (omega arith) in
    let raised = rounds_down (pos 2 *ℤ sum +ℤ pos 2) 4 (omega arith) in
    omega (arith, ints, parts, raised)
shifted s raise sum (suc (suc (suc zero))) mean some four is at =
    let parts = rounds_down (pos 2 *ℤ s +ℤ pos 3) 6 (omega arith) in
    let raised = rounds_down (pos 2 *ℤ sum +ℤ pos 3) 6 (omega arith) in
    omega (arith, ints, parts, raised)
shifted s raise sum (suc (suc (suc (suc zero)))) mean some four is at =
    let parts = rounds_down (pos 2 *ℤ s +ℤ pos 4) 8 (omega arith) in
    let raised = rounds_down (pos 2 *ℤ sum +ℤ pos 4) 8 (omega arith) in
    omega (arith, ints, parts, raised)
shifted s raise sum (suc (suc (suc (suc (suc n))))) mean some four is at = absurd (omega arith)

pub kept_mean : (raise : ℕ) (fa fb fc fd : Bool) (a b c d mean ra rb rc rd : ℤ)
    → ra ≡ cond fa (a +ℤ pos raise) (pos 0) → rb ≡ cond fb (b +ℤ pos raise) (pos 0) → rc ≡ cond fc (c +ℤ pos raise) (pos 0) → rd ≡ cond fd (d +ℤ pos raise) (pos 0)
    → 0 < count_kept fa fb fc fd
    → mean +ℤ pos raise ≡ mean_of_sum (ra +ℤ rb +ℤ rc +ℤ rd) (count_kept fa fb fc fd)
    → mean ≡ rounded_mean (kept_of_four fa fb fc fd a b c d)
kept_mean raise fa fb fc fd a b c d mean ra rb rc rd ea eb ec ed some at =
    let s1 : int_sum (kept_of_four fa fb fc fd a b c d) ≡ cond fa a (pos 0) +ℤ int_sum (kept fb b (kept fc c (kept fd d []))) = sum_more fa a (kept fb b (kept fc c (kept fd d []))) in
    let s2 : int_sum (kept fb b (kept fc c (kept fd d []))) ≡ cond fb b (pos 0) +ℤ int_sum (kept fc c (kept fd d [])) = sum_more fb b (kept fc c (kept fd d [])) in
    let s3 : int_sum (kept fc c (kept fd d [])) ≡ cond fc c (pos 0) +ℤ int_sum (kept fd d []) = sum_more fc c (kept fd d []) in
    let s4 : int_sum (kept fd d []) ≡ cond fd d (pos 0) +ℤ pos 0 = sum_more fd d [] in
    let products = mul-four raise (from_bool fa) (from_bool fb) (from_bool fc) (from_bool fd) in
    let sum : ra +ℤ rb +ℤ rc +ℤ rd ≡ int_sum (kept_of_four fa fb fc fd a b c d) +ℤ pos (raise * count_kept fa fb fc fd) =
    rw (s1, s2, s3, s4, products) (four_sums ra rb rc rd (raise * from_bool fa) (raise * from_bool fb) (raise * from_bool fc) (raise * from_bool fd) (cond fa a (pos 0)) (cond fb b (pos 0)) (cond fc c (pos 0)) (cond fd d (pos 0))
    (weight raise fa a ra ea) (weight raise fb b rb eb) (weight raise fc c rc ec) (weight raise fd d rd ed)) in
    let four : count_kept fa fb fc fd ≤ 4 = omega (arith, at_most_one fa, at_most_one fb, at_most_one fc, at_most_one fd) in
    shifted (int_sum (kept_of_four fa fb fc fd a b c d)) raise (ra +ℤ rb +ℤ rc +ℤ rd) (count_kept fa fb fc fd) mean some four sum at
    ∙ ap (mean_of_sum (int_sum (kept_of_four fa fb fc fd a b c d))) (sym (length_kept fa fb fc fd a b c d))

-- four flags say which of four numbers aren't the blank one
pub record Flagged (blank a b c d : ℤ) (fa fb fc fd : Bool) : Type 0 where
  pub first : fa ≡ not (int_eq a blank)
  pub second : fb ≡ not (int_eq b blank)
  pub third : fc ≡ not (int_eq c blank)
  pub fourth : fd ≡ not (int_eq d blank)

pub kept_is : (blank a b c d : ℤ) (fa fb fc fd : Bool) → Flagged blank a b c d fa fb fc fd → kept_of_four fa fb fc fd a b c d ≡ not_blank blank (a ∷ b ∷ c ∷ d ∷ [])
kept_is blank a b c d fa fb fc fd f = rw (f.first, f.second, f.third, f.fourth) refl

pub none_kept : (way : Combine) (blank a b c d : ℤ) (fa fb fc fd : Bool) → Flagged blank a b c d fa fb fc fd → count_kept fa fb fc fd ≡ 0 → blank ≡ combined way blank (a ∷ b ∷ c ∷ d ∷ [])
none_kept way blank a b c d fa fb fc fd f none =
    sym (combined_none way blank (a ∷ b ∷ c ∷ d ∷ []) (kept_of_four fa fb fc fd a b c d) (kept_is blank a b c d fa fb fc fd f) (length_kept fa fb fc fd a b c d ∙ none))

-- what a flag that is false says of the count
pub some_from : (none : Bool) (count : ℕ) → (count ≡ 0 → IsTrue none) → none ≡ false → 0 < count
some_from none zero says is = let e : none ≡ true = says refl in cc
some_from none (suc n) says is = omega arith

pub some_kept : (fa fb fc fd : Bool) (a b c d : ℤ) → 0 < count_kept fa fb fc fd → 0 < length (kept_of_four fa fb fc fd a b c d)
some_kept fa fb fc fd a b c d some = rw (length_kept fa fb fc fd a b c d) some

-- the mean of those that are kept, moved off the blank number
pub mean_of_rest : (blank a b c d : ℤ) (fa fb fc fd : Bool) (mean : ℤ) → Flagged blank a b c d fa fb fc fd → 0 < count_kept fa fb fc fd → mean ≡ rounded_mean (kept_of_four fa fb fc fd a b c d)
    → cond (int_eq mean blank) (blank +ℤ pos 1) mean ≡ combined Mean blank (a ∷ b ∷ c ∷ d ∷ [])
mean_of_rest blank a b c d fa fb fc fd mean f some is =
    rw is (sym (combined_mean Mean blank (a ∷ b ∷ c ∷ d ∷ []) (kept_of_four fa fb fc fd a b c d) refl (kept_is blank a b c d fa fb fc fd f) (some_kept fa fb fc fd a b c d some)))

-- where it is the blank number, that isn't the greatest of the width
pub room_above : (bits : ℕ) (blank a b c d : ℤ) (fa fb fc fd : Bool) (mean : ℤ) → Flagged blank a b c d fa fb fc fd → 0 < count_kept fa fb fc fd → mean ≡ rounded_mean (kept_of_four fa fb fc fd a b c d)
    → IsNumber bits a → IsNumber bits b → IsNumber bits c → IsNumber bits d → mean ≡ blank → blank <ℤ greatest_number bits
room_above bits blank a b c d fa fb fc fd mean f some is na nb nc nd at =
    let others : List ℤ = not_blank blank (a ∷ b ∷ c ∷ d ∷ []) in
    let same : kept_of_four fa fb fc fd a b c d ≡ others = kept_is blank a b c d fa fb fc fd f in
    let P : ℤ → Type 0 = λ v. v ≤ℤ greatest_number bits in
    blank_below blank (greatest_number bits) others (rw (← same) (some_kept fa fb fc fd a b c d some))
    (All-filter (λ v. not (int_eq v blank)) P (a ∷ b ∷ c ∷ d ∷ []) (All-four P a b c d na.high nb.high nc.high nd.high))
    (filter_passes (λ v. not (int_eq v blank)) (a ∷ b ∷ c ∷ d ∷ []))
    (ap rounded_mean (sym same) ∙ sym is ∙ at)

pub one_more : (mean blank most : ℤ) → (mean ≡ blank → blank <ℤ most) → cond (int_eq mean blank) (int_min (blank +ℤ pos 1) most) mean ≡ cond (int_eq mean blank) (blank +ℤ pos 1) mean
one_more mean blank most room = elim (int_eq mean blank) as (λ b. Decides b (mean ≡ blank) → cond b (int_min (blank +ℤ pos 1) most) mean ≡ cond b (blank +ℤ pos 1) mean) [
  | true ↦ λ same. let below : blank <ℤ most = room (same.0 refl) in omega (arith, ints, clamps)
  | false ↦ λ _. refl
] (Decides-int_eq mean blank)
