-- One more card in the pass over the cards.
use Rattle.std.proofs.Common.{◌≡◌, ℕ, zero, suc, ◌+◌, ◌<◌, Bool, true, false, cond, not, ◌||◌, List, [], ◌∷◌, ◌++◌, length, take, Option, Some, None, Result, Ok, Err, refl, subst, sym, ap, ◌∙◌, arith}
use Rattle.std.specs.Prelude.{find, slice_index_or, OnOk, IfErr}
use Rattle.std.specs.List.{list_any, range_with_len}
use Rattle.std.specs.Option.{option_map, option_map_or, option_or}
use Rattle.std.proofs.lemmas.List.{take_more}
use Rattle.std.proofs.lemmas.List.Folds.{find-append, list_any_more}
use Rattle.fits_header.specs.Values.{keywords, is_named, value_text, takes, has_value}
use Rattle.fits_header.specs.Reading.{begins_simple, values, is_bad, repeats}
use Rattle.fits_header.specs.Scan.{has_keyword, with_value}
use Rattle.fits_header.specs.Scanned.{IsScanned}
use Rattle.fits_header.specs.declared.keyword.Keyword.{Keyword}
use Rattle.fits_header.specs.declared.scan.Scan.{Scan}
use Rattle.fits_header.proofs.KeywordLemmas.{find-none, find-passes, at-keyword, any-own, any-skipped}
use Rattle.fits_header.proofs.ValuesLemmas.{values-skipped, values-named, has-named}

-- ---- what a card is

-- a card is named, of one keyword, or skipped
pub of-none : (card : List ℕ) → find (λ keyword. is_named keyword card) keywords ≡ None → (keyword : Keyword) → is_named keyword card ≡ false
of-none card e = at-keyword (λ keyword. is_named keyword card ≡ false) (find-none (λ keyword. is_named keyword card) keywords e)

pub of-some : (card : List ℕ) (keyword : Keyword) → find (λ keyword. is_named keyword card) keywords ≡ Some keyword → is_named keyword card ≡ true
of-some card keyword e = find-passes (λ keyword. is_named keyword card) keywords keyword e

pub bad-skipped : (card : List ℕ) → ((keyword : Keyword) → is_named keyword card ≡ false) → is_bad card ≡ false
unfolding is_bad
bad-skipped card skipped = any-skipped card (λ keyword. not (has_value keyword card)) skipped

bad-named : (card : List ℕ) (keyword : Keyword) (text : Option (List ℕ)) → is_named keyword card ≡ true → value_text card ≡ text → is_bad card ≡ not (option_map_or (takes keyword) text false)
unfolding is_bad
bad-named card keyword text named e = any-own card keyword (λ k. not (has_value k card)) named ∙ ap (λ o. not (option_map_or (takes keyword) o false)) e

pub bad-no_text : (card : List ℕ) (keyword : Keyword) → is_named keyword card ≡ true → value_text card ≡ None → is_bad card ≡ true
bad-no_text card keyword named e = bad-named card keyword None named e

pub bad-text : (card : List ℕ) (keyword : Keyword) (text : List ℕ) (good : Bool) → is_named keyword card ≡ true → value_text card ≡ Some text → takes keyword text ≡ good → is_bad card ≡ not good
bad-text card keyword text good named e taken = bad-named card keyword (Some text) named e ∙ ap not taken

-- ---- repeated keywords

range-more : (a n : ℕ) → range_with_len a (suc n) ≡ range_with_len a n ++ (a + n) ∷ []
range-more a zero = let e : a ≡ a + 0 = omega arith in ap (λ x. x ∷ []) e
range-more a (suc n) =
    let e : a + 1 + n ≡ a + suc n = omega arith in
    ap (λ xs. a ∷ xs) (range-more (a + 1) n ∙ ap (λ x. range_with_len (a + 1) n ++ x ∷ []) e)

find-more : (p : ℕ → Bool) (n : ℕ) → find p (range_with_len 0 (n + 1)) ≡ option_or (find p (range_with_len 0 n)) (cond (p n) (Some n) None)
find-more p n =
    let next : n + 1 ≡ suc n = omega arith in
    let zeroth : 0 + n ≡ n = omega arith in
    ap (λ m. find p (range_with_len 0 m)) next
    ∙ ap (find p) (range-more 0 n ∙ ap (λ x. range_with_len 0 n ++ x ∷ []) zeroth)
    ∙ find-append p (range_with_len 0 n) (n ∷ [])

found-more : (o : Option ℕ) (n : ℕ) (b : Bool) → option_map (λ i. i + 1) (option_or o (cond b (Some n) None)) ≡ option_or (option_map (λ i. i + 1) o) (cond b (Some (n + 1)) None)
found-more None n true = refl
found-more None n false = refl
found-more (Some i) n b = refl

repeated-more : (cards : List (List ℕ)) (n : ℕ) (b : Bool) → repeats cards n ≡ b
    → option_map (λ i. i + 1) (find (repeats cards) (range_with_len 0 (n + 1))) ≡ option_or (option_map (λ i. i + 1) (find (repeats cards) (range_with_len 0 n))) (cond b (Some (n + 1)) None)
repeated-more cards n b e =
    ap (option_map (λ i. i + 1)) (find-more (repeats cards) n ∙ ap (λ b. option_or (find (repeats cards) (range_with_len 0 n)) (cond b (Some n) None)) e)
    ∙ found-more (find (repeats cards) (range_with_len 0 n)) n b

repeats-skipped : (cards : List (List ℕ)) (n : ℕ) (card : List ℕ) → slice_index_or cards n [] ≡ card → ((keyword : Keyword) → is_named keyword card ≡ false) → repeats cards n ≡ false
unfolding repeats
repeats-skipped cards n card e skipped =
    any-skipped (slice_index_or cards n []) (λ keyword. list_any (is_named keyword) (take n cards)) (λ keyword. ap (is_named keyword) e ∙ skipped keyword)

repeats-named : (cards : List (List ℕ)) (n : ℕ) (card : List ℕ) (keyword : Keyword) → slice_index_or cards n [] ≡ card → is_named keyword card ≡ true
    → repeats cards n ≡ list_any (is_named keyword) (take n cards)
unfolding repeats
repeats-named cards n card keyword e named =
    any-own (slice_index_or cards n []) keyword (λ keyword. list_any (is_named keyword) (take n cards)) (ap (is_named keyword) e ∙ named)

-- ---- one more card

take-next : (cards : List (List ℕ)) (n : ℕ) (card : List ℕ) → n < length cards → slice_index_or cards n [] ≡ card → take (n + 1) cards ≡ take n cards ++ card ∷ []
take-next cards n card inside e = take_more cards n [] inside ∙ ap (λ c. take n cards ++ c ∷ []) e

good-next : (cards : List (List ℕ)) (n : ℕ) (card : List ℕ) → n < length cards → slice_index_or cards n [] ≡ card → list_any is_bad (take n cards) ≡ false → is_bad card ≡ false
    → list_any is_bad (take (n + 1) cards) ≡ false
good-next cards n card inside e before here =
    list_any_more is_bad cards n [] inside ∙ ap (λ b. b || is_bad (slice_index_or cards n [])) before ∙ ap is_bad e ∙ here

or_none : {A : Type 0} (o : Option A) → option_or o None ≡ o
or_none None = refl
or_none (Some x) = refl

pub scanned-skipped : (cards : List (List ℕ)) (n : ℕ) (card : List ℕ) (scan : Scan) → n < length cards → slice_index_or cards n [] ≡ card
    → ((keyword : Keyword) → is_named keyword card ≡ false) → IsScanned cards n scan → IsScanned cards (n + 1) scan
scanned-skipped cards n card scan inside e skipped so_far = record {
  header = so_far.header ∙ sym (ap (values (begins_simple cards)) (take-next cards n card inside e) ∙ values-skipped (begins_simple cards) (take n cards) card skipped);
  good = good-next cards n card inside e so_far.good (bad-skipped card skipped);
  repeated = so_far.repeated ∙ sym (repeated-more cards n false (repeats-skipped cards n card e skipped) ∙ or_none (option_map (λ i. i + 1) (find (repeats cards) (range_with_len 0 n))));
}

pub scanned-named : (cards : List (List ℕ)) (n : ℕ) (card : List ℕ) (keyword : Keyword) (text : List ℕ) (old new : Scan) → n < length cards → slice_index_or cards n [] ≡ card
    → is_named keyword card ≡ true → value_text card ≡ Some text → takes keyword text ≡ true
    → new.header ≡ with_value keyword text old.header
    → new.repeated ≡ option_or old.repeated (cond (has_keyword keyword old.header) (Some (n + 1)) None)
    → IsScanned cards n old → IsScanned cards (n + 1) new
scanned-named cards n card keyword text old new inside e named has taken header repeated so_far =
    let first_simple = begins_simple cards in
    let there : has_keyword keyword old.header ≡ list_any (is_named keyword) (take n cards) =
    ap (has_keyword keyword) so_far.header ∙ has-named keyword first_simple (take n cards) so_far.good in
    record {
      header = header ∙ ap (with_value keyword text) so_far.header
          ∙ sym (ap (values first_simple) (take-next cards n card inside e) ∙ values-named keyword first_simple (take n cards) card text named has);
      good = good-next cards n card inside e so_far.good (bad-text card keyword text true named has taken);
      repeated = repeated
          ∙ ap (λ o. option_or o (cond (has_keyword keyword old.header) (Some (n + 1)) None)) so_far.repeated
          ∙ ap (λ b. option_or (option_map (λ i. i + 1) (find (repeats cards) (range_with_len 0 n))) (cond b (Some (n + 1)) None)) there
          ∙ sym (repeated-more cards n (list_any (is_named keyword) (take n cards)) (repeats-named cards n card keyword e named));
    }

-- ---- the outcome of a value that is taken or refused

pub ok-part : {A E : Type 0} (r : Result A E) (good : Bool) (a : A) (e : E) (P : Type 0) → r ≡ cond good (Ok a) (Err e) → (good ≡ true → P) → OnOk r P
ok-part {A} {E} r true a e P same h = let Q : Result A E → Type 0 = λ r. OnOk r P in subst Q (sym same) (h refl)
ok-part {A} {E} r false a e P same h = let Q : Result A E → Type 0 = λ r. OnOk r P in subst Q (sym same) tt

pub err-part : {A E : Type 0} (r : Result A E) (good : Bool) (a : A) (e : E) (P : E → Type 0) → r ≡ cond good (Ok a) (Err e) → (good ≡ false → P e) → IfErr r P
err-part {A} {E} r true a e P same h = let Q : Result A E → Type 0 = λ r. IfErr r P in subst Q (sym same) tt
err-part {A} {E} r false a e P same h = let Q : Result A E → Type 0 = λ r. IfErr r P in subst Q (sym same) (h refl)
