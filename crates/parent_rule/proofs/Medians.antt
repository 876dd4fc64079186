-- The lower median of two to four numbers, by the least, the greatest and the middle of them.
use Rattle.std.proofs.Common.{◌≡◌, List, [], ◌∷◌, length, get_or, arith, refl, ap, sym, ◌∙◌, ℤ, pos, ◌≤ℤ◌}
use Rattle.std.proofs.lemmas.Int.{ints, clamps}
use Rattle.std.specs.Int.{int_min, int_max}
use Rattle.parent_rule.specs.Combined.{placed, ascending, lower_median}

-- a number placed before or behind the first of a list: which one is first
first : (a x none : ℤ) (rest : List ℤ) → get_or (placed a (x ∷ rest)) 0 none ≡ int_min a x
first a x none rest = grind (arith, ints)

-- a number placed before, between or behind two numbers in order: which one is second
second : (a x y blank : ℤ) (rest : List ℤ) → x ≤ℤ y → get_or (placed a (x ∷ y ∷ rest)) 1 blank ≡ int_max x (int_min a y)
second a x y blank rest le = grind (arith, ints)

pair : (a b : ℤ) → ascending (a ∷ b ∷ []) ≡ int_min a b ∷ int_max a b ∷ []
pair a b = grind (arith, ints)

three : (a x y : ℤ) → x ≤ℤ y → placed a (x ∷ y ∷ []) ≡ int_min a x ∷ int_max x (int_min a y) ∷ int_max a y ∷ []
three a x y le = grind (arith, ints)

int_min-le-int_max : (a b : ℤ) → int_min a b ≤ℤ int_max a b
int_min-le-int_max a b = omega (arith, ints, clamps)

pub median_of_two : (a b blank : ℤ) → int_min a b ≡ lower_median blank (a ∷ b ∷ [])
median_of_two a b blank = rw pair refl

pub median_of_three : (a b c blank : ℤ) → int_max (int_min b c) (int_min a (int_max b c)) ≡ lower_median blank (a ∷ b ∷ c ∷ [])
median_of_three a b c blank =
    rw pair (sym (second a (int_min b c) (int_max b c) blank [] (int_min-le-int_max b c)))

pub median_of_four : (a b c d blank : ℤ) → int_max (int_min b (int_min c d)) (int_min a (int_max (int_min c d) (int_min b (int_max c d)))) ≡ lower_median blank (a ∷ b ∷ c ∷ d ∷ [])
median_of_four a b c d blank =
    rw (pair, three b (int_min c d) (int_max c d) (int_min-le-int_max c d))
    (sym (second a (int_min b (int_min c d)) (int_max (int_min c d) (int_min b (int_max c d))) blank (int_max b (int_max c d) ∷ []) (omega (arith, ints, clamps))))

pub least_of_four : (a b c d none : ℤ) → int_min a (int_min b (int_min c d)) ≡ get_or (ascending (a ∷ b ∷ c ∷ d ∷ [])) 0 none
least_of_four a b c d none =
    rw (pair, three b (int_min c d) (int_max c d) (int_min-le-int_max c d))
    (sym (first a (int_min b (int_min c d)) none (int_max (int_min c d) (int_min b (int_max c d)) ∷ int_max b (int_max c d) ∷ [])))

-- a list of three or four numbers is these
listed_three : (vs : List ℤ) → length vs ≡ 3 → vs ≡ get_or vs 0 (pos 0) ∷ get_or vs 1 (pos 0) ∷ get_or vs 2 (pos 0) ∷ []
listed_three [] h = cc
listed_three (a ∷ []) h = absurd (omega arith)
listed_three (a ∷ b ∷ []) h = absurd (omega arith)
listed_three (a ∷ b ∷ c ∷ []) h = refl
listed_three (a ∷ b ∷ c ∷ d ∷ vs) h = absurd (omega arith)

listed_four : (vs : List ℤ) → length vs ≡ 4 → vs ≡ get_or vs 0 (pos 0) ∷ get_or vs 1 (pos 0) ∷ get_or vs 2 (pos 0) ∷ get_or vs 3 (pos 0) ∷ []
listed_four [] h = absurd (omega arith)
listed_four (a ∷ []) h = absurd (omega arith)
listed_four (a ∷ b ∷ []) h = absurd (omega arith)
listed_four (a ∷ b ∷ c ∷ []) h = absurd (omega arith)
listed_four (a ∷ b ∷ c ∷ d ∷ []) h = refl
listed_four (a ∷ b ∷ c ∷ d ∷ e ∷ vs) h = absurd (omega arith)

pub median_of_list_of_three : (vs : List ℤ) (blank : ℤ) → length vs ≡ 3 → int_max (int_min (get_or vs 1 (pos 0)) (get_or vs 2 (pos 0))) (int_min (get_or vs 0 (pos 0)) (int_max (get_or vs 1 (pos 0)) (get_or vs 2 (pos 0)))) ≡ lower_median blank vs
median_of_list_of_three vs blank h =
    median_of_three (get_or vs 0 (pos 0)) (get_or vs 1 (pos 0)) (get_or vs 2 (pos 0)) blank ∙ ap (lower_median blank) (sym (listed_three vs h))

pub median_of_list_of_four : (vs : List ℤ) (blank : ℤ) → length vs ≡ 4 → int_max (int_min (get_or vs 1 (pos 0)) (int_min (get_or vs 2 (pos 0)) (get_or vs 3 (pos 0)))) (int_min (get_or vs 0 (pos 0)) (int_max (int_min (get_or vs 2 (pos 0)) (get_or vs 3 (pos 0))) (int_min (get_or vs 1 (pos 0)) (int_max (get_or vs 2 (pos 0)) (get_or vs 3 (pos 0)))))) ≡ lower_median blank vs
median_of_list_of_four vs blank h =
    median_of_four (get_or vs 0 (pos 0)) (get_or vs 1 (pos 0)) (get_or vs 2 (pos 0)) (get_or vs 3 (pos 0)) blank ∙ ap (lower_median blank) (sym (listed_four vs h))
