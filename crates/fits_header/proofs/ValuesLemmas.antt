-- What one more card changes of the values of a header.
use Rattle.std.proofs.Common.{◌≡◌, ℕ, Bool, true, false, cond, not, ◌&&◌, ◌||◌, List, [], ◌∷◌, ◌++◌, Option, Some, None, refl, sym, ap, ◌∙◌}
use Rattle.std.specs.Prelude.{is_some, slice_get}
use Rattle.std.specs.List.{cons_option, filter_map, list_any}
use Rattle.std.specs.Option.{option_and_then, option_map_or, option_or}
use Rattle.std.specs.Str.{bytes_eq}
use Rattle.decimal_scale.specs.Whole.{whole_value}
use Rattle.fits_header.specs.Values.{keywords, columns, is_named, value_text, logical, real, takes, has_value}
use Rattle.fits_header.specs.Reading.{value_in, value_of, values, is_bad}
use Rattle.fits_header.specs.Scan.{has_keyword, with_value}
use Rattle.fits_header.specs.declared.header.Header.{Header}
use Rattle.fits_header.specs.declared.keyword.Keyword.{Keyword}
use Rattle.fits_header.specs.declared.keyword.Keyword.TheVariants.{Simple, Bitpix, Naxis, Naxis1, Naxis2, Bscale, Bzero, Blank}
use Rattle.fits_header.proofs.KeywordLemmas.{any-none, at-keyword, named-one}

-- ---- one keyword

first-of : {B : Type 0} (o : Option B) → slice_get (cons_option o []) 0 ≡ o
first-of None = refl
first-of (Some y) = refl

first-before : {B : Type 0} (o here : Option B) (more ys : List B) → slice_get more 0 ≡ option_or (slice_get ys 0) here
    → slice_get (cons_option o more) 0 ≡ option_or (slice_get (cons_option o ys) 0) here
first-before None here more ys e = e
first-before (Some y) here more ys e = refl

first-more : {A B : Type 0} (h : A → Option B) (xs : List A) (x : A) → slice_get (filter_map h (xs ++ x ∷ [])) 0 ≡ option_or (slice_get (filter_map h xs) 0) (h x)
first-more h [] x = first-of (h x)
first-more h (x' ∷ xs) x = first-before (h x') (h x) (filter_map h (xs ++ x ∷ [])) (filter_map h xs) (first-more h xs x)

or_none : {A : Type 0} (o : Option A) → option_or o None ≡ o
or_none None = refl
or_none (Some x) = refl

-- a card that is no named card of the keyword says nothing of it
value_of-skipped : {A : Type 0} (kind : List ℕ → Option A) (keyword : Keyword) (cards : List (List ℕ)) (card : List ℕ) → is_named keyword card ≡ false
    → value_of kind keyword (cards ++ card ∷ []) ≡ value_of kind keyword cards
value_of-skipped kind keyword cards card skipped =
    first-more (value_in kind keyword) cards card
    ∙ ap (λ b. option_or (value_of kind keyword cards) (cond b (option_and_then kind (value_text card)) None)) skipped
    ∙ or_none (value_of kind keyword cards)

-- a named card says its value, if it has one
value_of-more : {A : Type 0} (kind : List ℕ → Option A) (keyword : Keyword) (cards : List (List ℕ)) (card text : List ℕ) (own : Bool) → is_named keyword card ≡ own → value_text card ≡ Some text
    → value_of kind keyword (cards ++ card ∷ []) ≡ cond own (option_or (value_of kind keyword cards) (kind text)) (value_of kind keyword cards)
value_of-more kind keyword cards card text false named e = value_of-skipped kind keyword cards card named
value_of-more kind keyword cards card text true named e =
    first-more (value_in kind keyword) cards card
    ∙ ap (λ b. option_or (value_of kind keyword cards) (cond b (option_and_then kind (value_text card)) None)) named
    ∙ ap (λ o. option_or (value_of kind keyword cards) (option_and_then kind o)) e

-- ---- all keywords

pub values-skipped : (first_simple : Bool) (cards : List (List ℕ)) (card : List ℕ) → ((keyword : Keyword) → is_named keyword card ≡ false)
    → values first_simple (cards ++ card ∷ []) ≡ values first_simple cards
unfolding values
values-skipped first_simple cards card skipped =
    rw (
      value_of-skipped logical Simple cards card (skipped Simple),
      value_of-skipped whole_value Bitpix cards card (skipped Bitpix),
      value_of-skipped whole_value Naxis cards card (skipped Naxis),
      value_of-skipped whole_value Naxis1 cards card (skipped Naxis1),
      value_of-skipped whole_value Naxis2 cards card (skipped Naxis2),
      value_of-skipped real Bscale cards card (skipped Bscale),
      value_of-skipped real Bzero cards card (skipped Bzero),
      value_of-skipped whole_value Blank cards card (skipped Blank),
    ) refl

-- the value of a keyword, with that of the text where it is the card's own
chosen : {A : Type 0} → Keyword → List ℕ → (List ℕ → Option A) → Keyword → List (List ℕ) → Option A
chosen own text kind keyword cards = cond (bytes_eq (columns keyword) (columns own)) (option_or (value_of kind keyword cards) (kind text)) (value_of kind keyword cards)

values-chosen : (own : Keyword) (text : List ℕ) (first_simple : Bool) (cards : List (List ℕ)) → Header
values-chosen own text first_simple cards = record {
  first_simple = first_simple;
  simple = chosen own text logical Simple cards;
  bitpix = chosen own text whole_value Bitpix cards;
  naxis = chosen own text whole_value Naxis cards;
  naxis1 = chosen own text whole_value Naxis1 cards;
  naxis2 = chosen own text whole_value Naxis2 cards;
  bscale = chosen own text real Bscale cards;
  bzero = chosen own text real Bzero cards;
  blank = chosen own text whole_value Blank cards;
}

chosen-is : (own : Keyword) (text : List ℕ) (first_simple : Bool) (cards : List (List ℕ)) → values-chosen own text first_simple cards ≡ with_value own text (values first_simple cards)
unfolding values values-chosen chosen
chosen-is Simple text first_simple cards = refl
chosen-is Bitpix text first_simple cards = refl
chosen-is Naxis text first_simple cards = refl
chosen-is Naxis1 text first_simple cards = refl
chosen-is Naxis2 text first_simple cards = refl
chosen-is Bscale text first_simple cards = refl
chosen-is Bzero text first_simple cards = refl
chosen-is Blank text first_simple cards = refl

more : {A : Type 0} (kind : List ℕ → Option A) (keyword own : Keyword) (cards : List (List ℕ)) (card text : List ℕ) → is_named own card ≡ true → value_text card ≡ Some text
    → value_of kind keyword (cards ++ card ∷ []) ≡ chosen own text kind keyword cards
unfolding chosen
more kind keyword own cards card text named e = value_of-more kind keyword cards card text (bytes_eq (columns keyword) (columns own)) (named-one card own keyword named) e

values-more : (own : Keyword) (first_simple : Bool) (cards : List (List ℕ)) (card text : List ℕ) → is_named own card ≡ true → value_text card ≡ Some text
    → values first_simple (cards ++ card ∷ []) ≡ values-chosen own text first_simple cards
unfolding values values-chosen
values-more own first_simple cards card text named e =
    rw (
      more logical Simple own cards card text named e,
      more whole_value Bitpix own cards card text named e,
      more whole_value Naxis own cards card text named e,
      more whole_value Naxis1 own cards card text named e,
      more whole_value Naxis2 own cards card text named e,
      more real Bscale own cards card text named e,
      more real Bzero own cards card text named e,
      more whole_value Blank own cards card text named e,
    ) refl

pub values-named : (own : Keyword) (first_simple : Bool) (cards : List (List ℕ)) (card text : List ℕ) → is_named own card ≡ true → value_text card ≡ Some text
    → values first_simple (cards ++ card ∷ []) ≡ with_value own text (values first_simple cards)
values-named own first_simple cards card text named e = values-more own first_simple cards card text named e ∙ chosen-is own text first_simple cards

-- ---- which keywords have a value

-- a card that is not bad has a value
good-card : (card : List ℕ) (keyword : Keyword) → is_bad card ≡ false → is_named keyword card ≡ true → has_value keyword card ≡ true
unfolding is_bad
good-card card keyword good named = by (has_value keyword card) refl (at-keyword (λ k. (is_named k card && not (has_value k card)) ≡ false) (any-none (λ k. is_named k card && not (has_value k card)) keywords good) keyword)
  where
    by : (b : Bool) → has_value keyword card ≡ b → (is_named keyword card && not (has_value keyword card)) ≡ false → has_value keyword card ≡ true
    by true has fine = has
    by false has fine = absurd (let e : true ≡ false = sym (rw (named, has) refl) ∙ fine in cc)

-- the first value is there where some card is named, if each named card has a value
found : {A : Type 0} (h : List ℕ → Option A) (named : List ℕ → Bool) → ((card : List ℕ) → is_bad card ≡ false → is_some (h card) ≡ named card)
    → (cards : List (List ℕ)) → list_any is_bad cards ≡ false → is_some (slice_get (filter_map h cards) 0) ≡ list_any named cards
found h named tells [] good = refl
found {A} h named tells (card ∷ cards) good = by (found h named tells cards) (h card) (is_bad card) refl refl good
  where
    by : (list_any is_bad cards ≡ false → is_some (slice_get (filter_map h cards) 0) ≡ list_any named cards)
        → (o : Option A) (b : Bool) → h card ≡ o → is_bad card ≡ b → (b || list_any is_bad cards) ≡ false
        → is_some (slice_get (cons_option o (filter_map h cards)) 0) ≡ (named card || list_any named cards)
    by others o true here bad all = absurd cc
    by others None false here fine all =
        let no_name : named card ≡ false = sym (tells card fine) ∙ ap is_some here in
        others all ∙ ap (λ b. b || list_any named cards) (sym no_name)
    by others (Some x) false here fine all =
        let name : named card ≡ true = sym (tells card fine) ∙ ap is_some here in
        ap (λ b. b || list_any named cards) (sym name)

-- what a card that is not bad says of a keyword
tells : {A : Type 0} (kind : List ℕ → Option A) (keyword : Keyword) → ((text : List ℕ) → takes keyword text ≡ is_some (kind text)) → (card : List ℕ) → is_bad card ≡ false
    → is_some (value_in kind keyword card) ≡ is_named keyword card
tells kind keyword same card good = by (is_named keyword card) refl
  where
    has : (o : Option (List ℕ)) → value_text card ≡ o → option_map_or (takes keyword) o false ≡ true → is_some (option_and_then kind o) ≡ true
    has None e taken = absurd cc
    has (Some text) e taken = sym (same text) ∙ taken

    by : (b : Bool) → is_named keyword card ≡ b → is_some (cond b (option_and_then kind (value_text card)) None) ≡ b
    by false named = refl
    by true named = has (value_text card) refl (good-card card keyword good named)

pub has-named : (keyword : Keyword) (first_simple : Bool) (cards : List (List ℕ)) → list_any is_bad cards ≡ false → has_keyword keyword (values first_simple cards) ≡ list_any (is_named keyword) cards
unfolding values
has-named Simple first_simple cards good = found (value_in logical Simple) (is_named Simple) (tells logical Simple (λ _. refl)) cards good
has-named Bitpix first_simple cards good = found (value_in whole_value Bitpix) (is_named Bitpix) (tells whole_value Bitpix (λ _. refl)) cards good
has-named Naxis first_simple cards good = found (value_in whole_value Naxis) (is_named Naxis) (tells whole_value Naxis (λ _. refl)) cards good
has-named Naxis1 first_simple cards good = found (value_in whole_value Naxis1) (is_named Naxis1) (tells whole_value Naxis1 (λ _. refl)) cards good
has-named Naxis2 first_simple cards good = found (value_in whole_value Naxis2) (is_named Naxis2) (tells whole_value Naxis2 (λ _. refl)) cards good
has-named Bscale first_simple cards good = found (value_in real Bscale) (is_named Bscale) (tells real Bscale (λ _. refl)) cards good
has-named Bzero first_simple cards good = found (value_in real Bzero) (is_named Bzero) (tells real Bzero (λ _. refl)) cards good
has-named Blank first_simple cards good = found (value_in whole_value Blank) (is_named Blank) (tells whole_value Blank (λ _. refl)) cards good
