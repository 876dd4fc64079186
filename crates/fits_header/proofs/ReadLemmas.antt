-- Reading a header by the code's cases: with an end card, and without one.
use Rattle.std.proofs.Common.{◌≡◌, ℕ, ◌+◌, ◌*◌, ◌/◌, ◌<◌, ◌≤◌, true, false, List, [], length, take, Option, Some, None, Result, Ok, Err, refl, ap, ◌∙◌, arith}
use Rattle.std.specs.Prelude.{nat_lt, position}
use Rattle.std.specs.Option.{option_map_or, option_or}
use Rattle.std.proofs.lemmas.Bool.Decides.{nat_tests}
use Rattle.std.proofs.lemmas.List.{length-take}
use Rattle.std.proofs.lemmas.List.FromFn.{length-map-range_with_len}
use Rattle.std.proofs.lemmas.List.Quantifiers.{position-Some}
use Rattle.fits_header.specs.Cards.{card, cards, cards_before_end, is_end_card, header_length}
use Rattle.fits_header.specs.Reading.{read_header, fault_of, header_of, place_not_ascii, value_fault, twice_fault}
use Rattle.fits_header.specs.Scan.{read_cards}
use Rattle.fits_header.specs.declared.fault.HeaderFault.{HeaderFault}
use Rattle.fits_header.specs.declared.fault.HeaderFault.TheVariants.{Short, NotAscii, NoEnd}
use Rattle.fits_header.specs.declared.header.Header.{Header}

length-cards : (text : List ℕ) → length (cards text) ≡ length text / 80
unfolding cards
length-cards text = length-map-range_with_len (card text) 1 (length text / 80)

-- the end card is among the first 1,296, and lies in the text
pub end-within : (text : List ℕ) (n : ℕ) → cards_before_end text ≡ Some n → (n < 1296) × (80 * (n + 1) ≤ length text)
unfolding cards_before_end
end-within text n e =
    let found = position-Some is_end_card (take 1296 (cards text)) n [] e in
    let inside : n < length (take 1296 (cards text)) = found.0 in
    let len = length-take 1296 (cards text) in
    (omega (arith, length-cards text), omega (arith, length-cards text))

-- ---- without an end card

pub no_end-short : (text : List ℕ) → cards_before_end text ≡ None → length text < 103680 → read_header text ≡ Err Short
unfolding read_header fault_of
no_end-short text e below =
    let short : nat_lt (length text) 103680 ≡ true = grind (arith, nat_tests) in
    rw (e, short) refl

pub no_end-ascii : (text : List ℕ) (at : ℕ) → cards_before_end text ≡ None → 103680 ≤ length text → place_not_ascii (take 103680 text) ≡ Some at
    → read_header text ≡ Err (NotAscii at)
unfolding read_header fault_of
no_end-ascii text at e long found =
    let enough : nat_lt (length text) 103680 ≡ false = grind (arith, nat_tests) in
    rw (e, enough, found) refl

pub no_end-end : (text : List ℕ) → cards_before_end text ≡ None → 103680 ≤ length text → place_not_ascii (take 103680 text) ≡ None
    → read_header text ≡ Err NoEnd
unfolding read_header fault_of
no_end-end text e long found =
    let enough : nat_lt (length text) 103680 ≡ false = grind (arith, nat_tests) in
    rw (e, enough, found) refl

-- ---- with an end card behind n cards

pub end-short : (text : List ℕ) (n : ℕ) → cards_before_end text ≡ Some n → length text < header_length n → read_header text ≡ Err Short
unfolding read_header fault_of
end-short text n e below =
    let short : nat_lt (length text) (header_length n) ≡ true = grind (arith, nat_tests) in
    rw (e, short) refl

pub end-ascii : (text : List ℕ) (n at : ℕ) → cards_before_end text ≡ Some n → header_length n ≤ length text → place_not_ascii (take (80 * n) text) ≡ Some at
    → read_header text ≡ Err (NotAscii at)
unfolding read_header fault_of
end-ascii text n at e long found =
    let enough : nat_lt (length text) (header_length n) ≡ false = grind (arith, nat_tests) in
    rw (e, enough, found) refl

with_length : (n : ℕ) (fault : Option HeaderFault) (header read : Header) → option_map_or (λ f. Err f) fault (Ok header) ≡ Ok read
    → option_map_or {U = Result (Header × ℕ) HeaderFault} (λ f. Err f) fault (Ok (header, n)) ≡ Ok (read, n)
with_length n None header read e = let same : header ≡ read = cc in ap (λ h. Ok (h, n)) same
with_length n (Some f) header read e = absurd cc

with_fault : (n : ℕ) (fault : Option HeaderFault) (header : Header) (f : HeaderFault) → option_map_or (λ f. Err f) fault (Ok header) ≡ Err f
    → option_map_or {U = Result (Header × ℕ) HeaderFault} (λ f. Err f) fault (Ok (header, n)) ≡ Err f
with_fault n None header f e = absurd cc
with_fault n (Some g) header f e = let same : g ≡ f = cc in ap (λ h. Err h) same

pub end-cards : (text : List ℕ) (n : ℕ) → cards_before_end text ≡ Some n → header_length n ≤ length text → place_not_ascii (take (80 * n) text) ≡ None
    → read_header text ≡ option_map_or {U = Result (Header × ℕ) HeaderFault} (λ f. Err f) (option_or (value_fault (take n (cards text))) (twice_fault (take n (cards text)))) (Ok (header_of (take n (cards text)), header_length n))
unfolding read_header fault_of
end-cards text n e long found =
    let enough : nat_lt (length text) (header_length n) ≡ false = grind (arith, nat_tests) in
    rw (e, enough, found) refl

pub end-read : (text : List ℕ) (n : ℕ) (header : Header) → cards_before_end text ≡ Some n → header_length n ≤ length text → place_not_ascii (take (80 * n) text) ≡ None
    → read_cards (take n (cards text)) ≡ Ok header → read_header text ≡ Ok (header, header_length n)
unfolding read_cards
end-read text n header e long found read =
    let cs = take n (cards text) in
    end-cards text n e long found ∙ with_length (header_length n) (option_or (value_fault cs) (twice_fault cs)) (header_of cs) header read

pub end-refused : (text : List ℕ) (n : ℕ) (fault : HeaderFault) → cards_before_end text ≡ Some n → header_length n ≤ length text → place_not_ascii (take (80 * n) text) ≡ None
    → read_cards (take n (cards text)) ≡ Err fault → read_header text ≡ Err fault
unfolding read_cards
end-refused text n fault e long found read =
    let cs = take n (cards text) in
    end-cards text n e long found ∙ with_fault (header_length n) (option_or (value_fault cs) (twice_fault cs)) (header_of cs) fault read

-- ---- what the code looks at

pub end-found : (text : List ℕ) (chunks : List (List ℕ)) (found : Option ℕ) → chunks ≡ cards text → found ≡ position is_end_card (take 1296 chunks) → found ≡ cards_before_end text
unfolding cards_before_end
end-found text chunks found same e = e ∙ ap (λ cs. position is_end_card (take 1296 cs)) same

pub taken : {A : Type 0} (n : ℕ) (xs : List A) → n ≤ length xs → n ≡ length (take n xs)
taken n xs below = let e = length-take n xs in omega (arith, e)
