-- The cards of a text: they are its chunks of 80 bytes.
use Rattle.std.proofs.Common.{◌≡◌, ℕ, zero, suc, ◌+◌, ◌-◌, ◌*◌, ◌/◌, min, Bool, true, false, not, inl, inr, List, [], ◌∷◌, length, take, drop, map, None, refl, sym, ap, ◌∙◌, arith}
use Rattle.std.specs.Prelude.{nat_lt, position}
use Rattle.std.specs.List.{list_all, position_or_len, range_with_len}
use Rattle.std.specs.Simd.{first_chunks}
use Rattle.std.proofs.lemmas.Bool.{and_parts, cases_lt}
use Rattle.std.proofs.lemmas.Bool.Decides.{nat_tests}
use Rattle.std.proofs.lemmas.List.{drop-drop, take_all}
use Rattle.fits_header.specs.Cards.{card, cards}

card-next : (text : List ℕ) (k : ℕ) → take 80 (drop (80 * k) text) ≡ card text (k + 1)
card-next text k =
    let before : k + 1 - 1 ≡ k = omega arith in
    let len : 80 * (k + 1) - 80 * k ≡ 80 = omega arith in
    rw (before, len) refl

chunks-from : (text : List ℕ) (n k : ℕ) → first_chunks 80 n (drop (80 * k) text) ≡ map (card text) (range_with_len (k + 1) n)
chunks-from text zero k = refl
chunks-from text (suc n) k =
    let next : 80 * k + 80 ≡ 80 * (k + 1) = omega arith in
    let rest : first_chunks 80 n (drop 80 (drop (80 * k) text)) ≡ map (card text) (range_with_len (k + 1 + 1) n) =
    ap (first_chunks 80 n) (drop-drop 80 (80 * k) text ∙ ap (λ m. drop m text) next) ∙ chunks-from text n (k + 1) in
    rw (card-next text k, rest) refl

-- the chunks of a text are its cards
pub chunks-are_cards : (text : List ℕ) → first_chunks 80 (length text / 80) text ≡ cards text
unfolding cards
chunks-are_cards text = chunks-from text (length text / 80) 0

pub take-min : {A : Type 0} (n : ℕ) (xs : List A) → take (min (length xs) n) xs ≡ take n xs
take-min n xs = elim (cases_lt n (length xs)) [
  | inl below ↦ let e : min (length xs) n ≡ n = omega arith in rw e refl
  | inr above ↦ let e : min (length xs) n ≡ length xs = omega arith in
      rw e (take_all (length xs) xs (omega arith) ∙ sym (take_all n xs above))
]

-- where all pass, none stands that does not
pub position-none : {A : Type 0} (p : A → Bool) (xs : List A) → list_all p xs ≡ true → position (λ x. not (p x)) xs ≡ None
position-none p xs all = let e : position_or_len (λ x. not (p x)) xs ≡ length xs = passed p xs all in
    let none : nat_lt (length xs) (length xs) ≡ false = grind (arith, nat_tests) in
    rw (e, none) refl
  where
    passed : {A : Type 0} (p : A → Bool) (xs : List A) → list_all p xs ≡ true → position_or_len (λ x. not (p x)) xs ≡ length xs
    passed p [] all = refl
    passed p (x ∷ xs) all =
        let parts = and_parts (p x) (list_all p xs) all in
        rw (parts.0, passed p xs parts.1) (omega arith)
