-- Stored numbers behind others.
use Rattle.std.proofs.Common.{◌≡◌, ℕ, ◌+◌, ◌-◌, ◌*◌, ◌/◌, ◌<◌, ◌≤◌, List, ◌++◌, length, drop, refl, sym, ap, ◌∙◌, inl, inr, arith, length-drop, add-mul, ℤ, get_or}
use Rattle.std.specs.Prelude.{IsTrue}
use Rattle.std.proofs.lemmas.Bool.{cases_lt}
use Rattle.std.proofs.lemmas.List.{drop-drop, drop_at, drop-append-le}
use Rattle.parent_rule.specs.Depth.{is_bitpix}
use Rattle.tile_pixels.specs.Stored.{number_from, numbers_from, stored_at}
use Rattle.tile_pixels.specs.StoredLaws.{number_from-append, get_or-numbers_from}
use Rattle.allsky_mosaic.proofs.Strips.{times}

-- the first numbers are those that were there
pub stored_at-front : (bits count place : ℕ) (xs ys : List ℕ) → IsTrue (is_bitpix bits) → length xs ≡ count * (bits / 8) → place < count → stored_at bits (xs ++ ys) place ≡ stored_at bits xs place
stored_at-front bits count place xs ys known long within =
    let w : ℕ = bits / 8 in
    let fits : (place + 1) * w ≤ count * w = times (place + 1) count w (omega arith) in
    let start : place * w ≤ length xs = omega arith in
    let rest : w ≤ length (drop (place * w) xs) = rw (length-drop (place * w) xs) (omega arith) in
    ap (number_from bits) (drop-append-le (place * w) xs ys start) ∙ number_from-append bits (drop (place * w) xs) ys known rest

-- and the others follow
pub stored_at-back : (bits count place : ℕ) (xs ys : List ℕ) → length xs ≡ count * (bits / 8) → stored_at bits (xs ++ ys) (count + place) ≡ stored_at bits ys place
stored_at-back bits count place xs ys long =
    let w : ℕ = bits / 8 in
    let at : (count + place) * w ≡ length xs + place * w = add-mul count place w ∙ rw long refl in
    ap (λ (n : ℕ). number_from bits (drop n (xs ++ ys))) at ∙ ap (number_from bits) (sym (drop-drop (place * w) (length xs) (xs ++ ys)) ∙ ap (drop (place * w)) (drop_at xs ys (length xs) refl))

-- what holds of each of the first, and of each behind them, holds of all
pub all_appended : (bits count more : ℕ) (xs ys : List ℕ) (wanted : ℕ → ℤ) → IsTrue (is_bitpix bits) → length xs ≡ count * (bits / 8)
    → ((place : ℕ) → place < count → stored_at bits xs place ≡ wanted place) → ((place : ℕ) → place < more → stored_at bits ys place ≡ wanted (count + place))
    → (place : ℕ) → place < count + more → stored_at bits (xs ++ ys) place ≡ wanted place
all_appended bits count more xs ys wanted known long front back place within =
    elim (cases_lt place count) [
      | inl before ↦ stored_at-front bits count place xs ys known long before ∙ front place before
      | inr behind ↦
          let split : place ≡ count + (place - count) = omega arith in
          ap (stored_at bits (xs ++ ys)) split ∙ stored_at-back bits count (place - count) xs ys long ∙ back (place - count) (omega arith) ∙ ap wanted (sym split)
    ]

-- the numbers of a row that was written
pub stored_at-row : (bits place : ℕ) (row : List ℤ) (line : List ℕ) (d : ℤ) → numbers_from bits (length row) line ≡ row → place < length row → stored_at bits line place ≡ get_or row place d
stored_at-row bits place row line d is within = sym (get_or-numbers_from bits (length row) line place d within) ∙ ap (λ (vs : List ℤ). get_or vs place d) is
