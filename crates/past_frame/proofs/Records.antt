-- What stands first in some bytes, and in them and more.
use Rattle.std.proofs.Common.{◌≡◌, ℕ, zero, suc, ◌+◌, ◌-◌, ◌≤◌, ◌<◌, Bool, true, false, cond, List, [], ◌∷◌, ◌++◌, length, take, drop, Option, Some, None, refl, ap, ◌∙◌, arith, length-append}
use Rattle.std.specs.Prelude.{position, nat_lt, ◌==◌}
use Rattle.std.specs.List.{position_or_len}
use Rattle.std.proofs.lemmas.List.{take-append-le, drop-append-le, get_or_append_left}
use Rattle.std.proofs.lemmas.List.Sums.{position_or_len_is}
use Rattle.std.proofs.lemmas.List.Quantifiers.{position-Some}
use Rattle.std.proofs.lemmas.Bool.Decides.{nat_tests}
use Rattle.past_frame.specs.Line.{RecordLine, batch_line, read_line, line_of, line_feed}
use Rattle.past_frame.specs.Record.{PastRecord, batch, cut_short, no_line, then_rest, most_line, by_line, by_end, line_end, next_record}
use Rattle.past_frame.specs.Laws.{RecordsStand}

-- ---- the place of the line feed

pub take_of_more : (n : ℕ) (xs ys : List ℕ) → take n (xs ++ ys) ≡ take n xs ++ take (n - length xs) ys
take_of_more zero xs ys = let none : 0 - length xs ≡ 0 = omega arith in rw none refl
take_of_more (suc n) [] ys = let all : suc n - 0 ≡ suc n = omega arith in rw all refl
take_of_more (suc n) (x ∷ xs) ys =
    let less : suc n - suc (length xs) ≡ n - length xs = omega arith in
    rw less (ap (λ l. x ∷ l) (take_of_more n xs ys))

below_length : (n i len : ℕ) → n ≡ i → i < len → cond (nat_lt n len) (Some n) None ≡ Some i
below_length n i len e below = let yes : nat_lt n len ≡ true = grind (arith, nat_tests) in rw yes (ap Some e)

pub place_of_more : (p : ℕ → Bool) (xs ys : List ℕ) (at : ℕ) → position p xs ≡ Some at → position p (xs ++ ys) ≡ Some at
place_of_more p xs ys at is =
    let found = position-Some p xs at 0 is in
    let within : at < length xs = found.0 in
    let longer : at < length (xs ++ ys) = omega (arith, within, length-append xs ys) in
    let first : position_or_len p (xs ++ ys) ≡ at = position_or_len_is p (xs ++ ys) at 0 (omega (arith, longer))
    (λ k below. ap p (get_or_append_left xs ys 0 k (omega (arith, below, within))) ∙ found.2 k below)
    (λ _. ap p (get_or_append_left xs ys 0 at within) ∙ found.1) in
    below_length (position_or_len p (xs ++ ys)) at (length (xs ++ ys)) first longer

pub line_end_of_more : (bytes more : List ℕ) (at : ℕ) → line_end bytes ≡ Some at → line_end (bytes ++ more) ≡ Some at
line_end_of_more bytes more at is =
    ap (position (λ b. b == line_feed)) (take_of_more most_line bytes more)
    ∙ place_of_more (λ b. b == line_feed) (take most_line bytes) (take (most_line - length bytes) more) at is

take_shorter : (n : ℕ) (xs : List ℕ) → length (take n xs) ≤ length xs
take_shorter zero xs = omega arith
take_shorter (suc n) [] = omega arith
take_shorter (suc n) (x ∷ xs) = omega (arith, take_shorter n xs)

pub line_fits : (bytes : List ℕ) (at : ℕ) → line_end bytes ≡ Some at → at < length bytes
line_fits bytes at is =
    let within : at < length (take most_line bytes) = (position-Some (λ b. b == line_feed) (take most_line bytes) at 0 is).0 in
    omega (arith, within, take_shorter most_line bytes)

-- ---- by the line

by_line_of_more : (said : Option RecordLine) (rest more left : List ℕ) (first : PastRecord) → by_line said rest ≡ then_rest first left → by_line said (rest ++ more) ≡ then_rest first (left ++ more)
by_line_of_more None rest more left first is = cc
by_line_of_more (Some (read_line k path)) rest more left first is = cc
by_line_of_more (Some (batch_line count)) rest more left first is =
    elim (nat_lt (length rest) count) as (λ t. nat_lt (length rest) count ≡ t → cond t cut_short (then_rest (batch (take count rest)) (drop count rest)) ≡ then_rest first left
    → by_line (Some (batch_line count)) (rest ++ more) ≡ then_rest first (left ++ more)) [
      | true ↦ λ short is. cc
      | false ↦ λ long is.
          let fits : count ≤ length rest = grind (arith, nat_tests) in
          let longer : count ≤ length (rest ++ more) = omega (arith, fits, length-append rest more) in
          let enough : nat_lt (length (rest ++ more)) count ≡ false = grind (arith, nat_tests) in
          let front : take count (rest ++ more) ≡ take count rest = take-append-le count rest more fits in
          let back : drop count (rest ++ more) ≡ drop count rest ++ more = drop-append-le count rest more fits in
          rw (enough, front, back) (one first left is)
    ] refl is
  where
    one : (first' : PastRecord) (left' : List ℕ) → then_rest (batch (take count rest)) (drop count rest) ≡ then_rest first' left' → then_rest (batch (take count rest)) (drop count rest ++ more) ≡ then_rest first' (left' ++ more)
    one first' left' e = cc

no_line_of_more : (said : Option RecordLine) (rest more : List ℕ) → by_line said rest ≡ no_line → by_line said (rest ++ more) ≡ no_line
no_line_of_more None rest more is = refl
no_line_of_more (Some (read_line k path)) rest more is = cc
no_line_of_more (Some (batch_line count)) rest more is =
    absurd (elim (nat_lt (length rest) count) as (λ t. cond t cut_short (then_rest (batch (take count rest)) (drop count rest)) ≡ no_line → ⊥) [
      | true ↦ λ is. cc
      | false ↦ λ is. cc
    ] is)

-- ---- by the bytes

module _ (room : ℕ) (bytes more : List ℕ) where
  pub text_of_more : (at : ℕ) → at < length bytes → by_end room (bytes ++ more) (Some at) ≡ by_line (line_of room (take at bytes)) (drop (at + 1) bytes ++ more)
  text_of_more at within =
      let front : take at (bytes ++ more) ≡ take at bytes = take-append-le at bytes more (omega (arith, within)) in
      let back : drop (at + 1) (bytes ++ more) ≡ drop (at + 1) bytes ++ more = drop-append-le (at + 1) bytes more (omega (arith, within)) in
      rw (front, back) refl

  end_of_more : (rest : List ℕ) (first : PastRecord) → by_end room bytes (line_end bytes) ≡ then_rest first rest
      → by_end room (bytes ++ more) (line_end (bytes ++ more)) ≡ then_rest first (rest ++ more)
  end_of_more rest first =
      elim (line_end bytes) as (λ o. line_end bytes ≡ o → by_end room bytes o ≡ then_rest first rest → by_end room (bytes ++ more) (line_end (bytes ++ more)) ≡ then_rest first (rest ++ more)) [
        | None ↦ λ is h. absurd (elim (nat_lt (length bytes) most_line) as (λ t. cond t cut_short no_line ≡ then_rest first rest → ⊥) [ true ↦ λ e. cc | false ↦ λ e. cc ] h)
        | Some at ↦ λ is h.
            ap (by_end room (bytes ++ more)) (line_end_of_more bytes more at is)
            ∙ text_of_more at (line_fits bytes at is)
            ∙ by_line_of_more (line_of room (take at bytes)) (drop (at + 1) bytes) more rest first h
      ] refl

  -- no line feed stands among the bytes that a line may have
  none_of_more : line_end bytes ≡ None → by_end room bytes None ≡ no_line → by_end room (bytes ++ more) (line_end (bytes ++ more)) ≡ no_line
  none_of_more is h =
      elim (nat_lt (length bytes) most_line) as (λ t. nat_lt (length bytes) most_line ≡ t → cond t cut_short no_line ≡ no_line → by_end room (bytes ++ more) (line_end (bytes ++ more)) ≡ no_line) [
        | true ↦ λ short e. cc
        | false ↦ λ long e.
            let most : most_line ≤ length bytes = grind (arith, nat_tests) in
            let longer : most_line ≤ length (bytes ++ more) = omega (arith, most, length-append bytes more) in
            let enough : nat_lt (length (bytes ++ more)) most_line ≡ false = grind (arith, nat_tests) in
            let same : take most_line (bytes ++ more) ≡ take most_line bytes = take-append-le most_line bytes more most in
            let none : line_end (bytes ++ more) ≡ None = ap (position (λ b. b == line_feed)) same ∙ is in
            ap (by_end room (bytes ++ more)) none ∙ ap (λ t. cond t cut_short no_line) enough
      ] refl h

  bad_of_more : by_end room bytes (line_end bytes) ≡ no_line → by_end room (bytes ++ more) (line_end (bytes ++ more)) ≡ no_line
  bad_of_more =
      elim (line_end bytes) as (λ o. line_end bytes ≡ o → by_end room bytes o ≡ no_line → by_end room (bytes ++ more) (line_end (bytes ++ more)) ≡ no_line) [
        | None ↦ λ is h. none_of_more is h
        | Some at ↦ λ is h.
            ap (by_end room (bytes ++ more)) (line_end_of_more bytes more at is)
            ∙ text_of_more at (line_fits bytes at is)
            ∙ no_line_of_more (line_of room (take at bytes)) (drop (at + 1) bytes) more h
      ] refl

whole_of_more : (room : ℕ) (bytes rest more : List ℕ) (first : PastRecord) → next_record room bytes ≡ then_rest first rest → next_record room (bytes ++ more) ≡ then_rest first (rest ++ more)
unfolding next_record
whole_of_more room [] rest more first is = cc
whole_of_more room (b ∷ bytes) rest more first is = end_of_more room (b ∷ bytes) more rest first is

bad_line_of_more : (room : ℕ) (bytes more : List ℕ) → next_record room bytes ≡ no_line → next_record room (bytes ++ more) ≡ no_line
unfolding next_record
bad_line_of_more room [] more is = cc
bad_line_of_more room (b ∷ bytes) more is = bad_of_more room (b ∷ bytes) more is

pub records_stand : RecordsStand
records_stand = record { whole = whole_of_more; bad = bad_line_of_more }
