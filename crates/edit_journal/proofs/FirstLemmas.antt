-- The first number of a range that passes a test.
use Rattle.std.proofs.Common.{◌≡◌, ℕ, zero, suc, ◌+◌, ◌<◌, ◌≤◌, ◌⊎◌, Bool, true, false, cond, Option, Some, None, refl, sym, ap, ◌∙◌, subst, arith, inl, inr}
use Rattle.std.specs.Prelude.{find}
use Rattle.std.specs.List.{range_with_len}

-- a number is the first one or above it
pub first_or_above : (a i : ℕ) → a ≤ i → (a ≡ i) ⊎ (a + 1 ≤ i)
first_or_above a i h = grind arith

-- all before it fail, and it passes
pub find_at : (p : ℕ → Bool) (a n i : ℕ) → a ≤ i → i < a + n → p i ≡ true → ((j : ℕ) → a ≤ j → j < i → p j ≡ false) → find p (range_with_len a n) ≡ Some i
find_at p a zero i h h' is before = absurd (omega arith)
find_at p a (suc n) i h h' is before =
    elim (first_or_above a i h) [
      | inl same ↦ let here : p a ≡ true = ap p same ∙ is in rw here (ap Some same)
      | inr above ↦ let here : p a ≡ false = before a (omega arith) (omega arith) in rw here (find_at p (a + 1) n i above (omega arith) is (λ j k l. before j (omega arith) l))
    ]

-- all fail
pub find_none : (p : ℕ → Bool) (a n : ℕ) → ((j : ℕ) → a ≤ j → j < a + n → p j ≡ false) → find p (range_with_len a n) ≡ None
find_none p a zero all = refl
find_none p a (suc n) all =
    let here : p a ≡ false = all a (omega arith) (omega arith) in
    rw here (find_none p (a + 1) n (λ j k l. all j (omega arith) (omega arith)))

-- and back
pub none_found : (p : ℕ → Bool) (a n : ℕ) → find p (range_with_len a n) ≡ None → (j : ℕ) → a ≤ j → j < a + n → p j ≡ false
none_found p a zero none j h h' = absurd (omega arith)
none_found p a (suc n) none j h h' =
    elim (p a) as (λ b. p a ≡ b → cond b (Some a) (find p (range_with_len (a + 1) n)) ≡ None → p j ≡ false) [
      | true ↦ λ e (k : Some a ≡ None). cc
      | false ↦ λ e k. elim (first_or_above a j h) [
        | inl same ↦ ap p (sym same) ∙ e
        | inr above ↦ none_found p (a + 1) n k j above (omega arith)
      ]
    ] refl none

pub found_passes : (p : ℕ → Bool) (a n i : ℕ) → find p (range_with_len a n) ≡ Some i → p i ≡ true
found_passes p a zero i e = cc
found_passes p a (suc n) i e =
    elim (p a) as (λ b. p a ≡ b → cond b (Some a) (find p (range_with_len (a + 1) n)) ≡ Some i → p i ≡ true) [
      | true ↦ λ t (k : Some a ≡ Some i). let same : a ≡ i = cc in ap p (sym same) ∙ t
      | false ↦ λ t k. found_passes p (a + 1) n i k
    ] refl e
