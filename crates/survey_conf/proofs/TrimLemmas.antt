-- What is trimmed stays as it is when it is trimmed again.
use Rattle.std.proofs.Common.{◌≡◌, ℕ, zero, suc, ◌+◌, ◌-◌, ◌<◌, ◌≤◌, Bool, true, false, cond, List, [], ◌∷◌, length, get_or, take, drop, reverse, refl, sym, ap, ◌∙◌, arith}
use Rattle.std.specs.Prelude.{nat_lt}
use Rattle.std.proofs.lemmas.Bool.Decides.{nat_tests}
use Rattle.std.specs.List.{prefix_len, suffix_len}
use Rattle.std.proofs.lemmas.List.{take_all, get_or-reverse, length-reverse}
use Rattle.std.proofs.lemmas.List.Sums.{prefix_len-drop_no, prefix_len-drop_all, prefix_len_stops, suffix_len-take_no, suffix_len-le-length}
use Rattle.survey_conf.specs.Lines.{is_blank, trimmed, without_leading_blanks, without_trailing_blanks}

module _ (p : ℕ → Bool) where
  -- nothing passes at the front of what stands after those that pass at the front
  front : (xs : List ℕ) (n : ℕ) → prefix_len p xs ≡ n → prefix_len p (drop n xs) ≡ 0
  front xs n is = by (nat_lt n (length xs)) refl
    where
      by : (b : Bool) → nat_lt n (length xs) ≡ b → prefix_len p (drop n xs) ≡ 0
      by true e =
          let below : n < length xs = grind (arith, nat_tests) in
          prefix_len-drop_no p xs n 0 below (ap (λ m. p (get_or xs m 0)) (sym is) ∙ prefix_len_stops p xs 0 (omega arith))
      by false e = let beyond : length xs ≤ n = grind (arith, nat_tests) in prefix_len-drop_all p xs n beyond

  first_fails : (b : Bool) (n : ℕ) → cond b (1 + n) 0 ≡ 0 → b ≡ false
  first_fails true n e = absurd (omega arith)
  first_fails false n e = refl

  -- where nothing passes at the front of a list, nothing does at the front of what it begins with
  front-take : (xs : List ℕ) (n : ℕ) → prefix_len p xs ≡ 0 → prefix_len p (take n xs) ≡ 0
  front-take [] zero e = refl
  front-take [] (suc n) e = refl
  front-take (x ∷ xs) zero e = refl
  front-take (x ∷ xs) (suc n) e = ap (λ b. cond b (1 + prefix_len p (take n xs)) 0) (first_fails (p x) (prefix_len p xs) e)

  -- nothing passes at the end of what stands before those that pass at the end
  back : (xs : List ℕ) (n : ℕ) → n + suffix_len p xs ≡ length xs → suffix_len p (take n xs) ≡ 0
  back xs zero is = refl
  back xs (suc n) is =
      let small : suffix_len p xs < length (reverse xs) = omega (arith, length-reverse xs) in
      let place : length xs - 1 - suffix_len p xs ≡ n = omega arith in
      let fails : p (get_or xs n 0) ≡ false =
      ap (λ m. p (get_or xs m 0)) (sym place)
      ∙ ap p (sym (get_or-reverse xs (suffix_len p xs) 0 (omega arith)))
      ∙ prefix_len_stops p (reverse xs) 0 small in
      suffix_len-take_no p xs (suc n) 0 (omega arith) (omega arith) (ap (λ m. p (get_or xs m 0)) (omega arith) ∙ fails)

pub trimmed-trimmed : (bytes : List ℕ) → trimmed (trimmed bytes) ≡ trimmed bytes
unfolding trimmed
trimmed-trimmed bytes =
    let led : List ℕ = without_leading_blanks bytes in
    let n : ℕ = length led - suffix_len is_blank led in
    let both : List ℕ = take n led in
    let no_front : prefix_len is_blank both ≡ 0 = front-take is_blank led n (front is_blank bytes (prefix_len is_blank bytes) refl) in
    let no_back : suffix_len is_blank both ≡ 0 = back is_blank led n (omega (arith, suffix_len-le-length is_blank led)) in
    ap (λ m. without_trailing_blanks (drop m both)) no_front
    ∙ ap (λ m. take (length both - m) both) no_back
    ∙ take_all (length both - 0) both (omega arith)
