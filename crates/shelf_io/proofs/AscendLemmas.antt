-- Ascending lists of numbers: two with the same numbers are one.
use Rattle.std.proofs.Common.{◌≡◌, ℕ, zero, suc, ◌+◌, ◌<◌, ◌≤◌, ◌||◌, ◌&&◌, Bool, true, false, cond, List, [], ◌∷◌, length, get_or, refl, sym, ap, ◌∙◌, arith, add-one}
use Rattle.std.specs.Prelude.{nat_eq, nat_le, nat_lt, filter, All}
use Rattle.std.specs.List.{list_any, range_with_len, dedup, dedup_from}
use Rattle.std.specs.List.Sorted.{IsStrictlyIncreasing}
use Rattle.std.proofs.lemmas.Bool.Decides.{nat_tests}
use Rattle.std.proofs.lemmas.List.Elements.{All-head, All-tail}
use Rattle.std.proofs.lemmas.List.FromFn.{length-range_with_len, get_or-range_with_len}

-- the number is in the list
abbrev pub has : List ℕ → ℕ → Bool
has xs n = list_any (λ x. nat_eq x n) xs

-- each number is above the one before it, the first at least a
abbrev pub Ascends : ℕ → List ℕ → Type 0
Ascends a [] = Unit {0}
Ascends a (x ∷ xs) = (a ≤ x) × Ascends (x + 1) xs

at_next : (x : ℕ) (xs : List ℕ) (k : ℕ) → get_or (x ∷ xs) (k + 1) 0 ≡ get_or xs k 0
at_next x xs k = rw add-one refl

-- the same, place by place
pub ascends_from_increasing : (a : ℕ) (xs : List ℕ) → (0 < length xs → a ≤ get_or xs 0 0) → IsStrictlyIncreasing xs → Ascends a xs
ascends_from_increasing a [] first up = tt
ascends_from_increasing a (x ∷ xs) first up =
    let next : 0 < length xs → x + 1 ≤ get_or xs 0 0 = λ some. let this : get_or (x ∷ xs) 0 0 < get_or (x ∷ xs) (0 + 1) 0 = up 0 (omega arith) in omega (arith, at_next x xs 0) in
    (first (omega arith), ascends_from_increasing (x + 1) xs next (λ k h. let this : get_or (x ∷ xs) (k + 1) 0 < get_or (x ∷ xs) (k + 1 + 1) 0 = up (k + 1) (omega arith) in omega (arith, at_next x xs k, at_next x xs (k + 1))))

pub range_increases : (a n : ℕ) → IsStrictlyIncreasing (range_with_len a n)
range_increases a n k h =
    let long : length (range_with_len a n) ≡ n = length-range_with_len a n in
    let this : get_or (range_with_len a n) k 0 ≡ a + k = get_or-range_with_len a n k 0 (omega arith) in
    let next : get_or (range_with_len a n) (k + 1) 0 ≡ a + (k + 1) = get_or-range_with_len a n (k + 1) 0 (omega arith) in
    omega arith

-- ---- which numbers there are

-- nothing below the first
none_below : (n a : ℕ) (xs : List ℕ) → n < a → Ascends a xs → has xs n ≡ false
none_below n a [] h up = refl
none_below n a (x ∷ xs) h up =
    let other : nat_eq x n ≡ false = grind (arith, nat_tests) in
    rw other (none_below n (x + 1) xs (omega arith) up.1)

cut_off : (a b c d : Bool) → (a || c) ≡ (b || d) → a ≡ false → b ≡ false → c ≡ d
cut_off a b c d e f g = grind arith

pub same_numbers : (a b : ℕ) (xs ys : List ℕ) → Ascends a xs → Ascends b ys → ((n : ℕ) → has xs n ≡ has ys n) → xs ≡ ys
same_numbers a b [] [] up above same = refl
same_numbers a b [] (y ∷ ys) up above same = let own : nat_eq y y ≡ true = grind (arith, nat_tests) in let e = same y in absurd (grind (arith, own, e))
same_numbers a b (x ∷ xs) [] up above same = let own : nat_eq x x ≡ true = grind (arith, nat_tests) in let e = same x in absurd (grind (arith, own, e))
same_numbers a b (x ∷ xs) (y ∷ ys) up above same =
    let here : x ≡ y = first x y xs ys up.1 above.1 same in
    let rest : (n : ℕ) → has xs n ≡ has ys n = λ n. rest x y xs ys here up.1 above.1 same n in
    λ i. here i ∷ same_numbers (x + 1) (y + 1) xs ys up.1 above.1 rest i
  where
    own : (x : ℕ) → nat_eq x x ≡ true
    own x = grind (arith, nat_tests)

    first : (x y : ℕ) (xs ys : List ℕ) → Ascends (x + 1) xs → Ascends (y + 1) ys → ((n : ℕ) → has (x ∷ xs) n ≡ has (y ∷ ys) n) → x ≡ y
    first x y xs ys up above same =
        elim (nat_lt x y) as (λ b. nat_lt x y ≡ b → x ≡ y) [
          | true ↦ λ h. let none : has (y ∷ ys) x ≡ false = none_below x (x + 1) (y ∷ ys) (omega arith) (grind (arith, nat_tests), above) in let e = same x in let is = own x in absurd (grind (arith, none, e, is))
          | false ↦ λ h. elim (nat_lt y x) as (λ b. nat_lt y x ≡ b → x ≡ y) [
            | true ↦ λ g. let none : has (x ∷ xs) y ≡ false = none_below y (y + 1) (x ∷ xs) (omega arith) (grind (arith, nat_tests), up) in let e = same y in let is = own y in absurd (grind (arith, none, e, is))
            | false ↦ λ g. grind (arith, nat_tests)
          ] refl
        ] refl

    rest : (x y : ℕ) (xs ys : List ℕ) → x ≡ y → Ascends (x + 1) xs → Ascends (y + 1) ys → ((n : ℕ) → has (x ∷ xs) n ≡ has (y ∷ ys) n) → (n : ℕ) → has xs n ≡ has ys n
    rest x y xs ys here up above same n =
        elim (nat_eq x n) as (λ b. nat_eq x n ≡ b → has xs n ≡ has ys n) [
          | true ↦ λ e. none_below n (x + 1) xs (grind (arith, nat_tests)) up ∙ sym (none_below n (y + 1) ys (grind (arith, nat_tests)) above)
          | false ↦ λ e. let other : nat_eq y n ≡ false = grind (arith, nat_tests) in cut_off (nat_eq x n) (nat_eq y n) (has xs n) (has ys n) (same n) e other
        ] refl

no_both : (b : Bool) → false ≡ (b && false)
no_both true = refl
no_both false = refl

pub has_filter : (p : ℕ → Bool) (c : ℕ) (xs : List ℕ) → has (filter p xs) c ≡ (p c && has xs c)
has_filter p c [] = no_both (p c)
has_filter p c (x ∷ xs) =
    let rest : has (filter p xs) c ≡ (p c && has xs c) = has_filter p c xs in
    elim (nat_eq x c) as (λ b. nat_eq x c ≡ b → has (cond (p x) (x ∷ filter p xs) (filter p xs)) c ≡ (p c && (b || has xs c))) [
      | true ↦ λ e.
          let at : x ≡ c = grind (arith, nat_tests) in
          let same : p x ≡ p c = ap p at in
          elim (p x) as (λ b. p x ≡ b → has (cond b (x ∷ filter p xs) (filter p xs)) c ≡ (p c && true)) [
            | true ↦ λ t. let yes : p c ≡ true = sym same ∙ t in rw (e, yes) refl
            | false ↦ λ t. let no : p c ≡ false = sym same ∙ t in rw (rest, no) refl
          ] refl
      | false ↦ λ e.
          elim (p x) as (λ b. has (cond b (x ∷ filter p xs) (filter p xs)) c ≡ (p c && has xs c)) [
            | true ↦ rw e rest
            | false ↦ rest
          ]
    ] refl

pub has_range : (c a n : ℕ) → has (range_with_len a n) c ≡ (nat_le a c && nat_lt c (a + n))
has_range c a zero = grind (arith, nat_tests)
has_range c a (suc n) = rw (has_range c (a + 1) n) (first c a n)
  where
    first : (c a n : ℕ) → (nat_eq a c || (nat_le (a + 1) c && nat_lt c (a + 1 + n))) ≡ (nat_le a c && nat_lt c (a + suc n))
    first c a n = grind (arith, nat_tests)

same_twice : (a b c : Bool) → a ≡ b → (b || c) ≡ (b || (a || c))
same_twice a b c e = grind arith

has_dedup_from : (n k : ℕ) (xs : List ℕ) → has (dedup_from nat_eq k xs) n ≡ (nat_eq k n || has xs n)
has_dedup_from n k [] = refl
has_dedup_from n k (x ∷ xs) =
    elim (nat_eq x k) as (λ b. nat_eq x k ≡ b → has (cond b (dedup_from nat_eq k xs) (k ∷ dedup_from nat_eq x xs)) n ≡ (nat_eq k n || (nat_eq x n || has xs n))) [
      | true ↦ λ e. let same : x ≡ k = grind (arith, nat_tests) in has_dedup_from n k xs ∙ same_twice (nat_eq x n) (nat_eq k n) (has xs n) (ap (λ m. nat_eq m n) same)
      | false ↦ λ e. ap (λ b. nat_eq k n || b) (has_dedup_from n x xs)
    ] refl

pub has_dedup : (n : ℕ) (xs : List ℕ) → has (dedup nat_eq xs) n ≡ has xs n
has_dedup n [] = refl
has_dedup n (x ∷ xs) = has_dedup_from n x xs

-- a number that no element can be is not there
pub has_none : (n b : ℕ) (xs : List ℕ) → All (λ x. x < b) xs → b ≤ n → has xs n ≡ false
has_none n b [] all h = refl
has_none n b (x ∷ xs) all h =
    let below : x < b = All-head (λ y. y < b) x xs all in
    let other : nat_eq x n ≡ false = grind (arith, nat_tests) in
    rw other (has_none n b xs (All-tail (λ y. y < b) x xs all) h)
