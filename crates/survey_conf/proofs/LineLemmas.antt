-- The first line of a text, and the parts round the first `=`.
use Rattle.std.proofs.Common.{◌≡◌, ℕ, ◌+◌, ◌<◌, Bool, true, false, cond, List, [], ◌∷◌, length, get_or, take, drop, Option, Some, None, refl, sym, ap, ◌∙◌, arith}
use Rattle.std.specs.Prelude.{◌==◌, ◌||◌, not, position, nat_lt}
use Rattle.std.specs.List.{slice_split, position_or_len, before_first, after_first, All, list_any}
use Rattle.std.proofs.lemmas.List.Splits.{slice_split_none, slice_split_first, length-slice_split}
use Rattle.std.proofs.lemmas.List.Sums.{position_or_len_is, fails_before_first}
use Rattle.std.proofs.lemmas.Bool.Decides.{nat_tests}
use Rattle.memchr.specs.Find.{IsFirstByte}
use Rattle.survey_conf.specs.Lines.{is_line_feed, without_empty_last, lines}

pub not_true : (b : Bool) → (b ≡ true → ⊥) → b ≡ false
not_true true never = absurd (never refl)
not_true false _ = refl

at_length : (n len : ℕ) → n ≡ len → cond (nat_lt n len) (Some n) None ≡ None
at_length n len e = let no : nat_lt n len ≡ false = grind (arith, nat_tests) in rw no refl

below_length : (n i len : ℕ) → n ≡ i → i < len → cond (nat_lt n len) (Some n) None ≡ Some i
below_length n i len e below = let yes : nat_lt n len ≡ true = grind (arith, nat_tests) in rw yes (ap Some e)

-- the first place that a search of the bytes found
pub position-from_search : (test : ℕ → Bool) (bytes : List ℕ) (r : Option ℕ) → IsFirstByte test bytes r → r ≡ position test bytes
position-from_search test bytes None none =
    sym (at_length (position_or_len test bytes) (length bytes)
    (position_or_len_is test bytes (length bytes) 0 (omega arith)
    (λ k below. not_true (test (get_or bytes k 0)) (λ yes. none k (omega arith) below yes))
    (λ beyond. absurd (omega arith))))
position-from_search test bytes (Some i) found =
    sym (below_length (position_or_len test bytes) i (length bytes)
    (position_or_len_is test bytes i 0 (omega (arith, found.0.high))
    (λ k below. not_true (test (get_or bytes k 0)) (λ yes. found.0.before k (omega arith) below yes))
    (λ within. found.1))
    found.0.high)

-- a test that something passes at is one of the list
pub position-some : (test : ℕ → Bool) (bytes : List ℕ) (i : ℕ) → position test bytes ≡ Some i → (position_or_len test bytes ≡ i) × (i < length bytes)
position-some test bytes i = by (nat_lt (position_or_len test bytes) (length bytes)) refl
  where
    by : (b : Bool) → nat_lt (position_or_len test bytes) (length bytes) ≡ b → cond b (Some (position_or_len test bytes)) None ≡ Some i → (position_or_len test bytes ≡ i) × (i < length bytes)
    by true e is = let same : position_or_len test bytes ≡ i = cc in (same, grind (arith, nat_tests))
    by false e is = absurd cc

more_parts : (part : List ℕ) (parts : List (List ℕ)) → 0 < length parts → without_empty_last (part ∷ parts) ≡ part ∷ without_empty_last parts
more_parts part [] some = absurd (omega arith)
more_parts part (next ∷ parts) some = refl

-- where a text has a line feed, its first line ends there
pub lines_first : (text : List ℕ) (i : ℕ) → position is_line_feed text ≡ Some i → lines text ≡ take i text ∷ lines (drop (i + 1) text)
unfolding lines
lines_first text i found =
    let parts = position-some is_line_feed text i found in
    let some : 0 < length (slice_split is_line_feed (after_first is_line_feed text)) =
    omega (arith, length-slice_split is_line_feed (after_first is_line_feed text)) in
    ap without_empty_last (slice_split_first is_line_feed text 0 (omega (arith, parts)))
    ∙ more_parts (before_first is_line_feed text) (slice_split is_line_feed (after_first is_line_feed text)) some
    ∙ ap (λ n. take n text ∷ without_empty_last (slice_split is_line_feed (drop (n + 1) text))) parts.0

-- a text without a line feed is one line
pub lines_only : (text : List ℕ) → 0 < length text → position is_line_feed text ≡ None → lines text ≡ text ∷ lines []
unfolding lines
lines_only [] some none = absurd (omega arith)
lines_only (b ∷ text) some none =
    let full : (length (b ∷ text) == 0) ≡ false = grind (arith, nat_tests) in
    ap without_empty_last (slice_split_none is_line_feed (b ∷ text) (nowhere is_line_feed (b ∷ text) none))
    ∙ ap (λ empty. cond empty [] ((b ∷ text) ∷ [])) full
  where
    nowhere : (test : ℕ → Bool) (bytes : List ℕ) → position test bytes ≡ None → All (λ b. test b ≡ false) bytes
    nowhere test bytes none k d below = fails_before_first test bytes k d (grind (arith, nat_tests))

-- something passes a test exactly where there is a first place
pub list_any-place : (test : ℕ → Bool) (bytes : List ℕ) → list_any test bytes ≡ nat_lt (position_or_len test bytes) (length bytes)
list_any-place test [] = refl
list_any-place test (b ∷ bytes) =
    elim (test b) as (λ v. (v || list_any test bytes) ≡ nat_lt (cond (not v) (1 + position_or_len test bytes) 0) (length (b ∷ bytes))) [
      | true ↦ grind (arith, nat_tests)
      | false ↦ list_any-place test bytes ∙ grind (arith, nat_tests)
    ]

pub list_any-none : (test : ℕ → Bool) (bytes : List ℕ) → position test bytes ≡ None → list_any test bytes ≡ false
list_any-none test bytes none = list_any-place test bytes ∙ by (nat_lt (position_or_len test bytes) (length bytes)) none
  where
    by : (b : Bool) → cond b (Some (position_or_len test bytes)) None ≡ None → b ≡ false
    by true e = absurd cc
    by false e = refl

pub list_any-some : (test : ℕ → Bool) (bytes : List ℕ) (i : ℕ) → position test bytes ≡ Some i → list_any test bytes ≡ true
list_any-some test bytes i found =
    let parts = position-some test bytes i found in
    list_any-place test bytes ∙ grind (arith, nat_tests, parts)
