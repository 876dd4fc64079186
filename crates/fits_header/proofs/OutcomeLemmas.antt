-- What the pass over the cards answers.
use Rattle.std.proofs.Common.{◌≡◌, ℕ, zero, suc, ◌+◌, ◌<◌, Bool, true, false, cond, not, ◌||◌, List, [], ◌∷◌, length, take, get_or, Some, None, Ok, Err, refl, sym, ap, ◌∙◌, arith}
use Rattle.std.specs.Prelude.{nat_lt, position, slice_index_or}
use Rattle.std.specs.List.{list_any, position_or_len}
use Rattle.std.proofs.lemmas.Bool.Decides.{nat_tests}
use Rattle.std.proofs.lemmas.List.{take_all}
use Rattle.fits_header.specs.Reading.{begins_simple, values, is_bad, repeated_card}
use Rattle.fits_header.specs.Scan.{read_cards, no_values}
use Rattle.fits_header.specs.Scanned.{IsScanned}
use Rattle.fits_header.specs.declared.fault.HeaderFault.TheVariants.{BadValue, Twice}
use Rattle.fits_header.specs.declared.scan.Scan.{Scan}

-- ---- the first place

none-before : {A : Type 0} (p : A → Bool) (xs : List A) → list_any p xs ≡ false → position_or_len p xs ≡ length xs
none-before p [] e = refl
none-before p (x ∷ xs) e = by (none-before p xs) (p x) refl e
  where
    by : (list_any p xs ≡ false → position_or_len p xs ≡ length xs) → (b : Bool) → p x ≡ b → (b || list_any p xs) ≡ false → cond (not (p x)) (1 + position_or_len p xs) 0 ≡ suc (length xs)
    by others true here all = absurd cc
    by others false here all = rw (here, others all) (omega arith)

position-none_any : {A : Type 0} (p : A → Bool) (xs : List A) → list_any p xs ≡ false → position p xs ≡ None
position-none_any p xs e =
    let none : nat_lt (length xs) (length xs) ≡ false = grind (arith, nat_tests) in
    rw (none-before p xs e, none) refl

first-at : {A : Type 0} (p : A → Bool) (xs : List A) (n : ℕ) (d : A) → n < length xs → list_any p (take n xs) ≡ false → p (get_or xs n d) ≡ true → position_or_len p xs ≡ n
first-at p [] n d inside before here = absurd (omega arith)
first-at p (x ∷ xs) zero d inside before here = rw here refl
first-at p (x ∷ xs) (suc n) d inside before here = by (first-at p xs n d (omega arith)) (p x) refl before
  where
    by : (list_any p (take n xs) ≡ false → p (get_or xs n d) ≡ true → position_or_len p xs ≡ n) → (b : Bool) → p x ≡ b → (b || list_any p (take n xs)) ≡ false → cond (not (p x)) (1 + position_or_len p xs) 0 ≡ suc n
    by others true first all = absurd cc
    by others false first all = rw (first, others all here) (omega arith)

position-at : {A : Type 0} (p : A → Bool) (xs : List A) (n : ℕ) (d : A) → n < length xs → list_any p (take n xs) ≡ false → p (get_or xs n d) ≡ true → position p xs ≡ Some n
position-at p xs n d inside before here =
    let there : nat_lt n (length xs) ≡ true = grind (arith, nat_tests) in
    rw (first-at p xs n d inside before here, there) refl

-- ---- the pass

-- nothing was taken
pub scanned-none : (cards : List (List ℕ)) (scan : Scan) → scan.header ≡ no_values (begins_simple cards) → scan.repeated ≡ None → IsScanned cards 0 scan
unfolding values
scanned-none cards scan header repeated = record { header = header; good = refl; repeated = repeated }

scanned-good : (cards : List (List ℕ)) (scan : Scan) → IsScanned cards (length cards) scan → position is_bad cards ≡ None
scanned-good cards scan scanned =
    position-none_any is_bad cards (sym (ap (list_any is_bad) (take_all (length cards) cards (omega arith))) ∙ scanned.good)

pub cards-read : (cards : List (List ℕ)) (scan : Scan) → IsScanned cards (length cards) scan → scan.repeated ≡ None → read_cards cards ≡ Ok scan.header
unfolding read_cards
cards-read cards scan scanned once =
    let single : repeated_card cards ≡ None = sym scanned.repeated ∙ once in
    let all : scan.header ≡ values (begins_simple cards) cards = scanned.header ∙ ap (values (begins_simple cards)) (take_all (length cards) cards (omega arith)) in
    rw (scanned-good cards scan scanned, single) (ap Ok (sym all))

pub cards-twice : (cards : List (List ℕ)) (scan : Scan) (card : ℕ) → IsScanned cards (length cards) scan → scan.repeated ≡ Some card → read_cards cards ≡ Err (Twice card)
unfolding read_cards
cards-twice cards scan card scanned twice =
    let found : repeated_card cards ≡ Some card = sym scanned.repeated ∙ twice in
    rw (scanned-good cards scan scanned, found) refl

pub cards-bad : (cards : List (List ℕ)) (n : ℕ) → n < length cards → list_any is_bad (take n cards) ≡ false → is_bad (slice_index_or cards n []) ≡ true → read_cards cards ≡ Err (BadValue (n + 1))
unfolding read_cards
cards-bad cards n inside before here = rw (position-at is_bad cards n [] inside before here) refl
