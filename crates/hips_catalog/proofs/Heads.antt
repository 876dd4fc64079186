-- Ids whose heads differ are in the order of their heads.
use Rattle.std.proofs.Common.{◌≡◌, ℕ, zero, suc, ◌+◌, ◌-◌, ◌*◌, ◌^◌, ◌<◌, ◌≤◌, ltb, List, [], ◌∷◌, refl, sym, ap, ◌∙◌, subst, arith, ◌⊎◌, inl, inr}
use Rattle.std.proofs.lemmas.Bool.{ltb-true, ltb-false}
use Rattle.std.proofs.Math.Nat.{pow-succ', mul_assoc, mul-le-mul_right, le-mul_of_pos_right, one-le-pow}
use Rattle.std.specs.Cmp.{nat_cmp_is}
use Rattle.std.specs.Cmp.Lexicographic.{slice_cmp, nat_list_cmp_total}
use Rattle.std.specs.declared.cmp.Ordering.TheVariants.{Less, Equal}
use Rattle.std.specs.Ordering.{nat_cmp, is_lt, ordering_then}
use Rattle.hips_catalog.specs.Heads.{head_on, id_head, AreBytes}
use Rattle.hips_catalog.proofs.Order.{either, reversed}

first : (x : ℕ) (xs : List ℕ) → AreBytes (x ∷ xs) → x < 256
first x xs h = h 0

rest : (x : ℕ) (xs : List ℕ) → AreBytes (x ∷ xs) → AreBytes xs
rest x xs h = λ i. h (suc i)

none : AreBytes []
none = λ i. omega arith

-- a smaller number stays smaller, whatever follows
lower : (n a b : ℕ) (xs ys : List ℕ) → AreBytes xs → a < b → head_on n a xs < head_on n b ys
lower zero a b xs ys h l = l
lower (suc n) a b [] [] h l = lower n (a * 256) (b * 256) [] [] h (omega (arith, l))
lower (suc n) a b [] (y ∷ ys) h l = lower n (a * 256) (b * 256 + y) [] ys h (omega (arith, l))
lower (suc n) a b (x ∷ xs) [] h l = let f = first x xs h in lower n (a * 256 + x) (b * 256) xs [] (rest x xs h) (omega (arith, l, f))
lower (suc n) a b (x ∷ xs) (y ∷ ys) h l = let f = first x xs h in lower n (a * 256 + x) (b * 256 + y) xs ys (rest x xs h) (omega (arith, l, f))

nothing_is_below : (xs : List ℕ) → slice_cmp nat_cmp xs [] ≡ Less → ⊥
nothing_is_below [] h = absurd (grind (arith, h))
nothing_is_below (x ∷ xs) h = absurd (grind (arith, h))

ranks : (x y : ℕ) → (x < y) ⊎ ((x ≡ y) ⊎ (y < x))
ranks x y = elim (either (ltb x y)) [
  | inl t ↦ inl (ltb-true x y t)
  | inr f ↦ elim (either (ltb y x)) [
    | inl t ↦ inr (inr (ltb-true y x t))
    | inr g ↦ let least : y ≤ x = ltb-false x y f in let most : x ≤ y = ltb-false y x g in inr (inl (omega (arith, least, most)))
  ]
]

in_order : (n a : ℕ) (xs ys : List ℕ) → AreBytes xs → AreBytes ys → head_on n a xs < head_on n a ys → slice_cmp nat_cmp xs ys ≡ Less
in_order zero a xs ys hx hy l = absurd (omega (arith, l))
in_order (suc n) a [] [] hx hy l = in_order n (a * 256) [] [] hx hy l
in_order (suc n) a [] (y ∷ ys) hx hy l = refl
in_order (suc n) a (x ∷ xs) [] hx hy l = elim (ranks 0 x) [
  | inl s ↦
      let more : head_on n (a * 256) [] < head_on n (a * 256 + x) xs = lower n (a * 256) (a * 256 + x) [] xs none (omega (arith, s)) in
      absurd (omega (arith, l, more))
  | inr (inl e) ↦
      let same : a * 256 + x ≡ a * 256 = omega (arith, e) in
      absurd (nothing_is_below xs (in_order n (a * 256) xs [] (rest x xs hx) hy (subst (λ z. head_on n z xs < head_on n (a * 256) []) same l)))
  | inr (inr s) ↦ absurd (omega (arith, s))
]
in_order (suc n) a (x ∷ xs) (y ∷ ys) hx hy l = elim (ranks x y) [
  | inl s ↦ ap (λ o. ordering_then o (slice_cmp nat_cmp xs ys)) (sym (nat_cmp_is x y Less s))
  | inr (inl e) ↦ ap (λ o. ordering_then o (slice_cmp nat_cmp xs ys)) (sym (nat_cmp_is x y Equal e))
      ∙ in_order n (a * 256 + x) xs ys (rest x xs hx) (rest y ys hy) (subst (λ z. head_on n (a * 256 + x) xs < head_on n (a * 256 + z) ys) (sym e) l)
  | inr (inr s) ↦
      let more : head_on n (a * 256 + y) ys < head_on n (a * 256 + x) xs = lower n (a * 256 + y) (a * 256 + x) ys xs (rest y ys hy) (omega (arith, s)) in
      absurd (omega (arith, l, more))
]

pub below_by_head : (xs ys : List ℕ) → AreBytes xs → AreBytes ys → ¬ (id_head xs ≡ id_head ys)
    → is_lt (slice_cmp nat_cmp xs ys) ≡ ltb (id_head xs) (id_head ys)
below_by_head xs ys hx hy n = elim (either (ltb (id_head xs) (id_head ys))) [
  | inl t ↦ ap is_lt (in_order 8 0 xs ys hx hy (ltb-true (id_head xs) (id_head ys) t)) ∙ sym t
  | inr f ↦
      let least : id_head ys ≤ id_head xs = ltb-false (id_head xs) (id_head ys) f in
      ap is_lt (nat_list_cmp_total.antisymm xs ys) ∙ reversed (slice_cmp nat_cmp ys xs) (in_order 8 0 ys xs hy hx (omega (arith, least, n))) ∙ sym f
]

-- ---- what a head has room for

-- with one byte more before those that follow
pub with_one_more : (a b count : ℕ) → 0 < count → b < 256 → (a + 1) * 256 ^ count ≤ 2 ^ 64 → (a * 256 + b + 1) * 256 ^ (count - 1) ≤ 2 ^ 64
with_one_more a b count some h l =
    let c = count - 1 in
    let p = 256 ^ c in
    let is : count ≡ suc c = omega (arith, some) in
    let split : (a + 1) * 256 ^ count ≡ (a + 1) * 256 * p = ap (λ n. (a + 1) * 256 ^ n) is ∙ ap (λ n. (a + 1) * n) (pow-succ' 256 c) ∙ sym (mul_assoc (a + 1) 256 p) in
    let most : (a * 256 + b + 1) * p ≤ (a + 1) * 256 * p = mul-le-mul_right p (omega (arith, h)) in
    omega (arith, split, most, l)

-- so the number itself has room
pub has_room : (a c : ℕ) → (a + 1) * 256 ^ c ≤ 2 ^ 64 → a < 2 ^ 64
has_room a c l =
    let least : a + 1 ≤ (a + 1) * 256 ^ c = le-mul_of_pos_right (a + 1) (one-le-pow c 256 (omega arith)) in
    omega (arith, least, l)
