-- The lower median of four numbers of which some may be blank: by which are kept, where a blank one is the most there can be.
use Rattle.std.proofs.Common.{◌≡◌, ◌<◌, ◌≤◌, Bool, true, false, cond, [], ◌∷◌, refl, sym, ap, ◌∙◌, arith, ℤ, pos, ◌≤ℤ◌, slice_index_or}
use Rattle.std.proofs.lemmas.Int.{ints, clamps}
use Rattle.std.specs.Int.{int_min, int_max}
use Rattle.std.specs.Ordering.{ord_min, ord_max, int_cmp, is_lt}
use Rattle.std.proofs.Common.{Ordering, Less, Equal, Greater, int_lt}
use Rattle.parent_rule.specs.Combined.{combined, ascending, lower_median}
use Rattle.parent_rule.specs.Kept.{kept_of_four, count_kept}
use Rattle.parent_rule.specs.declared.combine.Combine.TheVariants.{Median}
use Rattle.parent_rule.proofs.Cases.{combined_median}
use Rattle.parent_rule.proofs.FourNumbers.{Flagged, kept_is, some_kept}
use Rattle.parent_rule.proofs.Medians.{median_of_two, median_of_three, median_of_four, least_of_four}

is_lt_int_cmp : (x y : ℤ) → is_lt (int_cmp x y) ≡ int_lt x y
is_lt_int_cmp x y = elim (int_lt x y) as (λ b. is_lt (cond b Less (cond (int_lt y x) Greater Equal)) ≡ b) [
  | true ↦ refl
  | false ↦ elim (int_lt y x) as (λ b. is_lt (cond b Greater Equal) ≡ false) [
    | true ↦ refl
    | false ↦ refl
  ]
]

-- values whose numbers are in their order: what is chosen of two by it
chosen : {T : Type 0} (cmp : T → T → Ordering) (value : T → ℤ) → ((a b : T) → cmp a b ≡ int_cmp (value a) (value b)) → (a b x y : T) → value (cond (is_lt (cmp a b)) x y) ≡ cond (int_lt (value a) (value b)) (value x) (value y)
chosen cmp value law a b x y =
    ap (λ b. value (cond b x y)) (ap is_lt (law a b) ∙ is_lt_int_cmp (value a) (value b))
    ∙ elim (int_lt (value a) (value b)) as (λ b. value (cond b x y) ≡ cond b (value x) (value y)) [
      | true ↦ refl
      | false ↦ refl
    ]

-- the least and the greatest of two values
pub value_min : {T : Type 0} (cmp : T → T → Ordering) (value : T → ℤ) → ((a b : T) → cmp a b ≡ int_cmp (value a) (value b)) → (a b least : T) → least ≡ ord_min cmp a b → value least ≡ int_min (value a) (value b)
value_min cmp value law a b least is = ap value is ∙ chosen cmp value law b a b a

pub value_max : {T : Type 0} (cmp : T → T → Ordering) (value : T → ℤ) → ((a b : T) → cmp a b ≡ int_cmp (value a) (value b)) → (a b greatest : T) → greatest ≡ ord_max cmp a b → value greatest ≡ int_max (value a) (value b)
value_max cmp value law a b greatest is = ap value is ∙ chosen cmp value law b a a b

-- the least of four numbers, and the one above it
abbrev pub first_of : ℤ → ℤ → ℤ → ℤ → ℤ
first_of a b c d = int_min a (int_min b (int_min c d))

abbrev pub second_of : ℤ → ℤ → ℤ → ℤ → ℤ
second_of a b c d = int_max (int_min b (int_min c d)) (int_min a (int_max (int_min c d) (int_min b (int_max c d))))

-- they are the first two in ascending order
pub first_in_order : (a b c d : ℤ) → first_of a b c d ≡ slice_index_or (ascending (a ∷ b ∷ c ∷ d ∷ [])) 0 (pos 0)
first_in_order a b c d = least_of_four a b c d (pos 0)

pub second_in_order : (a b c d : ℤ) → second_of a b c d ≡ slice_index_or (ascending (a ∷ b ∷ c ∷ d ∷ [])) 1 (pos 0)
second_in_order a b c d = median_of_four a b c d (pos 0)

-- one or two are kept
first_is : (ka kb kc kd : Bool) (a b c d most blank : ℤ) → a ≤ℤ most → b ≤ℤ most → c ≤ℤ most → d ≤ℤ most → 0 < count_kept ka kb kc kd → count_kept ka kb kc kd ≤ 2
    → first_of (cond ka a most) (cond kb b most) (cond kc c most) (cond kd d most) ≡ lower_median blank (kept_of_four ka kb kc kd a b c d)
first_is true true true true a b c d most blank ha hb hc hd some few = absurd (omega arith)
first_is true true true false a b c d most blank ha hb hc hd some few = absurd (omega arith)
first_is true true false true a b c d most blank ha hb hc hd some few = absurd (omega arith)
first_is true true false false a b c d most blank ha hb hc hd some few = let e : first_of a b most most ≡ int_min a b = omega (arith, ints, clamps) in e ∙ median_of_two a b blank
first_is true false true true a b c d most blank ha hb hc hd some few = absurd (omega arith)
first_is true false true false a b c d most blank ha hb hc hd some few = let e : first_of a most c most ≡ int_min a c = omega (arith, ints, clamps) in e ∙ median_of_two a c blank
first_is true false false true a b c d most blank ha hb hc hd some few = let e : first_of a most most d ≡ int_min a d = omega (arith, ints, clamps) in e ∙ median_of_two a d blank
first_is true false false false a b c d most blank ha hb hc hd some few = omega (arith, ints, clamps)
first_is false true true true a b c d most blank ha hb hc hd some few = absurd (omega arith)
first_is false true true false a b c d most blank ha hb hc hd some few = let e : first_of most b c most ≡ int_min b c = omega (arith, ints, clamps) in e ∙ median_of_two b c blank
first_is false true false true a b c d most blank ha hb hc hd some few = let e : first_of most b most d ≡ int_min b d = omega (arith, ints, clamps) in e ∙ median_of_two b d blank
first_is false true false false a b c d most blank ha hb hc hd some few = omega (arith, ints, clamps)
first_is false false true true a b c d most blank ha hb hc hd some few = let e : first_of most most c d ≡ int_min c d = omega (arith, ints, clamps) in e ∙ median_of_two c d blank
first_is false false true false a b c d most blank ha hb hc hd some few = omega (arith, ints, clamps)
first_is false false false true a b c d most blank ha hb hc hd some few = omega (arith, ints, clamps)
first_is false false false false a b c d most blank ha hb hc hd some few = absurd (omega arith)

at_most : (most low b high : ℤ) → low ≤ℤ most → b ≤ℤ most → int_min most (int_max low (int_min b high)) ≡ int_max low (int_min b high)
at_most most low b high hl hb = omega (arith, ints, clamps)

absorbed : (b low v : ℤ) → int_max (int_min b low) (int_max low v) ≡ int_max low v
absorbed b low v = omega (arith, ints, clamps)

-- three or four are kept
second_is : (ka kb kc kd : Bool) (a b c d most blank : ℤ) → a ≤ℤ most → b ≤ℤ most → c ≤ℤ most → d ≤ℤ most → 0 < count_kept ka kb kc kd → 2 < count_kept ka kb kc kd
    → second_of (cond ka a most) (cond kb b most) (cond kc c most) (cond kd d most) ≡ lower_median blank (kept_of_four ka kb kc kd a b c d)
second_is true true true true a b c d most blank ha hb hc hd some few = median_of_four a b c d blank
second_is true true true false a b c d most blank ha hb hc hd some few =
    let low : int_min c most ≡ c = omega (arith, ints, clamps) in
    let high : int_max c most ≡ most = omega (arith, ints, clamps) in
    let upper : int_min b most ≡ b = omega (arith, ints, clamps) in
    let turned : int_max c b ≡ int_max b c = omega (arith, ints, clamps) in
    ap (λ (v : ℤ). int_max (int_min b v) (int_min a (int_max v (int_min b (int_max c most))))) low
    ∙ ap (λ (v : ℤ). int_max (int_min b c) (int_min a (int_max c (int_min b v)))) high
    ∙ ap (λ (v : ℤ). int_max (int_min b c) (int_min a (int_max c v))) upper
    ∙ ap (λ (v : ℤ). int_max (int_min b c) (int_min a v)) turned
    ∙ median_of_three a b c blank
second_is true true false true a b c d most blank ha hb hc hd some few =
    let low : int_min most d ≡ d = omega (arith, ints, clamps) in
    let high : int_max most d ≡ most = omega (arith, ints, clamps) in
    let upper : int_min b most ≡ b = omega (arith, ints, clamps) in
    let turned : int_max d b ≡ int_max b d = omega (arith, ints, clamps) in
    ap (λ (v : ℤ). int_max (int_min b v) (int_min a (int_max v (int_min b (int_max most d))))) low
    ∙ ap (λ (v : ℤ). int_max (int_min b d) (int_min a (int_max d (int_min b v)))) high
    ∙ ap (λ (v : ℤ). int_max (int_min b d) (int_min a (int_max d v))) upper
    ∙ ap (λ (v : ℤ). int_max (int_min b d) (int_min a v)) turned
    ∙ median_of_three a b d blank
second_is true true false false a b c d most blank ha hb hc hd some few = absurd (omega arith)
second_is true false true true a b c d most blank ha hb hc hd some few =
    let low : int_min most (int_min c d) ≡ int_min c d = omega (arith, ints, clamps) in
    let high : int_min most (int_max c d) ≡ int_max c d = omega (arith, ints, clamps) in
    let above : int_max (int_min c d) (int_max c d) ≡ int_max c d = omega (arith, ints, clamps) in
    ap (λ (v : ℤ). int_max v (int_min a (int_max (int_min c d) (int_min most (int_max c d))))) low
    ∙ ap (λ (v : ℤ). int_max (int_min c d) (int_min a (int_max (int_min c d) v))) high
    ∙ ap (λ (v : ℤ). int_max (int_min c d) (int_min a v)) above
    ∙ median_of_three a c d blank
second_is true false true false a b c d most blank ha hb hc hd some few = absurd (omega arith)
second_is true false false true a b c d most blank ha hb hc hd some few = absurd (omega arith)
second_is true false false false a b c d most blank ha hb hc hd some few = absurd (omega arith)
second_is false true true true a b c d most blank ha hb hc hd some few =
    let low : int_min c d ≤ℤ most = omega (arith, ints, clamps) in
    let most_of : int_min most (int_max (int_min c d) (int_min b (int_max c d))) ≡ int_max (int_min c d) (int_min b (int_max c d)) = at_most most (int_min c d) b (int_max c d) low hb in
    ap (λ (v : ℤ). int_max (int_min b (int_min c d)) v) most_of
    ∙ absorbed b (int_min c d) (int_min b (int_max c d))
    ∙ median_of_three b c d blank
second_is false true true false a b c d most blank ha hb hc hd some few = absurd (omega arith)
second_is false true false true a b c d most blank ha hb hc hd some few = absurd (omega arith)
second_is false true false false a b c d most blank ha hb hc hd some few = absurd (omega arith)
second_is false false true true a b c d most blank ha hb hc hd some few = absurd (omega arith)
second_is false false true false a b c d most blank ha hb hc hd some few = absurd (omega arith)
second_is false false false true a b c d most blank ha hb hc hd some few = absurd (omega arith)
second_is false false false false a b c d most blank ha hb hc hd some few = absurd (omega arith)

-- four numbers, none above the greatest, each where it is placed: behind the others where it is blank
pub record Placed (most a b c d : ℤ) (fa fb fc fd : Bool) (pa pb pc pd : ℤ) : Type 0 where
  pub first : pa ≡ cond fa a most
  pub second : pb ≡ cond fb b most
  pub third : pc ≡ cond fc c most
  pub fourth : pd ≡ cond fd d most
  pub most_a : a ≤ℤ most
  pub most_b : b ≤ℤ most
  pub most_c : c ≤ℤ most
  pub most_d : d ≤ℤ most

pub first_kept : (most blank a b c d : ℤ) (fa fb fc fd : Bool) (pa pb pc pd : ℤ) → Flagged blank a b c d fa fb fc fd → Placed most a b c d fa fb fc fd pa pb pc pd → 0 < count_kept fa fb fc fd → count_kept fa fb fc fd ≤ 2
    → slice_index_or (ascending (pa ∷ pb ∷ pc ∷ pd ∷ [])) 0 (pos 0) ≡ combined Median blank (a ∷ b ∷ c ∷ d ∷ [])
first_kept most blank a b c d fa fb fc fd pa pb pc pd f p some few =
    sym (first_in_order pa pb pc pd) ∙ rw (p.first, p.second, p.third, p.fourth)
    (first_is fa fb fc fd a b c d most blank p.most_a p.most_b p.most_c p.most_d some few
    ∙ sym (combined_median Median blank (a ∷ b ∷ c ∷ d ∷ []) (kept_of_four fa fb fc fd a b c d) refl (kept_is blank a b c d fa fb fc fd f) (some_kept fa fb fc fd a b c d some)))

pub second_kept : (most blank a b c d : ℤ) (fa fb fc fd : Bool) (pa pb pc pd : ℤ) → Flagged blank a b c d fa fb fc fd → Placed most a b c d fa fb fc fd pa pb pc pd → 2 < count_kept fa fb fc fd
    → slice_index_or (ascending (pa ∷ pb ∷ pc ∷ pd ∷ [])) 1 (pos 0) ≡ combined Median blank (a ∷ b ∷ c ∷ d ∷ [])
second_kept most blank a b c d fa fb fc fd pa pb pc pd f p more =
    let some : 0 < count_kept fa fb fc fd = omega arith in
    sym (second_in_order pa pb pc pd) ∙ rw (p.first, p.second, p.third, p.fourth)
    (second_is fa fb fc fd a b c d most blank p.most_a p.most_b p.most_c p.most_d some more
    ∙ sym (combined_median Median blank (a ∷ b ∷ c ∷ d ∷ []) (kept_of_four fa fb fc fd a b c d) refl (kept_is blank a b c d fa fb fc fd f) (some_kept fa fb fc fd a b c d some)))
