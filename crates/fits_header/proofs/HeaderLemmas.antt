-- A header that was written is read by its cards.
use Rattle.std.proofs.Common.{◌≡◌, ℕ, suc, ◌+◌, ◌-◌, ◌*◌, ◌/◌, ◌<◌, ◌≤◌, true, ◌&&◌, List, [], ◌∷◌, ◌++◌, length, take, drop, replicate, Some, None, Result, Ok, Err, refl, sym, ap, ◌∙◌, arith, append_assoc, length-append}
use Rattle.std.specs.Prelude.{nat_lt, position}
use Rattle.std.specs.List.{AllByRecursion, concat, list_all, position_or_len}
use Rattle.std.specs.Option.{option_map_or, option_or}
use Rattle.std.specs.Simd.{first_chunks}
use Rattle.std.proofs.Math.Seq.{take-append-add}
use Rattle.std.proofs.lemmas.Bool.Decides.{nat_tests}
use Rattle.std.proofs.lemmas.List.{take_at, drop_at, append-nil, length-replicate}
use Rattle.std.proofs.lemmas.List.Folds.{concat-append, list_all-append}
use Rattle.fits_header.specs.Cards.{cards, cards_before_end, is_end_card, whole_blocks, header_length}
use Rattle.fits_header.specs.Reading.{header_of, is_text_byte, place_not_ascii, value_fault, twice_fault}
use Rattle.fits_header.specs.WrittenCards.{end_card}
use Rattle.fits_header.specs.FitsFile.{header_text}
use Rattle.fits_header.specs.Laws.{IsInnerCard, WrittenHeadersAreRead}
use Rattle.fits_header.specs.declared.fault.HeaderFault.{HeaderFault}
use Rattle.fits_header.specs.declared.header.Header.{Header}
use Rattle.fits_header.proofs.CardLemmas.{chunks-are_cards, position-none}
use Rattle.fits_header.proofs.ReadLemmas.{end-cards}

-- ---- cards one behind another

concat-length : (cs : List (List ℕ)) → AllByRecursion IsInnerCard cs → length (concat cs) ≡ 80 * length cs
concat-length [] all = refl
concat-length (c ∷ cs) all =
    let long = all.0.is.len in
    let sum = length-append c (concat cs) in
    omega (arith, sum, long, concat-length cs all.1)

concat-text : (cs : List (List ℕ)) → AllByRecursion IsInnerCard cs → list_all is_text_byte (concat cs) ≡ true
concat-text [] all = refl
concat-text (c ∷ cs) all =
    list_all-append is_text_byte c (concat cs) ∙ ap (λ b. b && list_all is_text_byte (concat cs)) all.0.is.bytes ∙ concat-text cs all.1

chunks-of : (cs : List (List ℕ)) (ys : List ℕ) (k : ℕ) → AllByRecursion IsInnerCard cs → first_chunks 80 (length cs + k) (concat cs ++ ys) ≡ cs ++ first_chunks 80 k ys
chunks-of [] ys k all = let e : 0 + k ≡ k = omega arith in ap (λ m. first_chunks 80 m ys) e
chunks-of (c ∷ cs) ys k all =
    let e : length (c ∷ cs) + k ≡ suc (length cs + k) = omega arith in
    let flat = append_assoc c (concat cs) ys in
    ap (λ m. first_chunks 80 m ((c ++ concat cs) ++ ys)) e
    ∙ ap (first_chunks 80 (suc (length cs + k))) flat
    ∙ ap (λ x. x ∷ first_chunks 80 (length cs + k) (drop 80 (c ++ (concat cs ++ ys)))) (take_at c (concat cs ++ ys) 80 all.0.is.len)
    ∙ ap (λ xs. c ∷ first_chunks 80 (length cs + k) xs) (drop_at c (concat cs ++ ys) 80 all.0.is.len)
    ∙ ap (λ xs. c ∷ xs) (chunks-of cs ys k all.1)

-- the cards of a text that begins with cards and the end card
text-cards : (cs : List (List ℕ)) (ys : List ℕ) (k : ℕ) → AllByRecursion IsInnerCard cs → length (concat cs ++ (end_card ++ ys)) / 80 ≡ length cs + suc k
    → cards (concat cs ++ (end_card ++ ys)) ≡ cs ++ end_card ∷ first_chunks 80 k ys
text-cards cs ys k all count =
    let text = concat cs ++ (end_card ++ ys) in
    sym (chunks-are_cards text)
    ∙ ap (λ m. first_chunks 80 m text) count
    ∙ chunks-of cs (end_card ++ ys) (suc k) all

-- ---- the end card

first-end : (cs : List (List ℕ)) (others : List (List ℕ)) → AllByRecursion IsInnerCard cs → position_or_len is_end_card (cs ++ end_card ∷ others) ≡ length cs
first-end [] others all = refl
first-end (c ∷ cs) others all =
    let next : 1 + length cs ≡ suc (length cs) = omega arith in
    rw (all.0.inner, first-end cs others all.1) next

found-end : (cs : List (List ℕ)) (others : List (List ℕ)) → AllByRecursion IsInnerCard cs → position is_end_card (cs ++ end_card ∷ others) ≡ Some (length cs)
found-end cs others all =
    let len = length-append cs (end_card ∷ others) in
    let there : nat_lt (length cs) (length (cs ++ end_card ∷ others)) ≡ true = let more : length cs < length (cs ++ end_card ∷ others) = omega (arith, len) in grind (arith, nat_tests) in
    rw (first-end cs others all, there) refl

text-end : (cs : List (List ℕ)) (text : List ℕ) (others : List (List ℕ)) → AllByRecursion IsInnerCard cs → length cs < 1296 → cards text ≡ cs ++ end_card ∷ others → cards_before_end text ≡ Some (length cs)
unfolding cards_before_end
text-end cs text others all few is =
    let room : 1296 ≡ length cs + suc (1295 - length cs) = omega arith in
    ap (λ xs. position is_end_card (take 1296 xs)) is
    ∙ ap (λ m. position is_end_card (take m (cs ++ end_card ∷ others))) room
    ∙ ap (position is_end_card) (take-append-add cs (end_card ∷ others) (suc (1295 - length cs)))
    ∙ found-end cs (take (1295 - length cs) others) all

-- ---- the text of a header

-- the bytes of a header: its cards, the end card, and what follows
header-parts : (cs : List (List ℕ)) (rest : List ℕ) → header_text (cs ++ end_card ∷ []) ++ rest
    ≡ concat cs ++ (end_card ++ (replicate (whole_blocks (length (concat (cs ++ end_card ∷ []))) - length (concat (cs ++ end_card ∷ []))) 32 ++ rest))
unfolding header_text
header-parts cs rest =
    let spaces = replicate (whole_blocks (length (concat (cs ++ end_card ∷ []))) - length (concat (cs ++ end_card ∷ []))) 32 in
    ap (λ xs. (xs ++ spaces) ++ rest) (concat-append cs (end_card ∷ []))
    ∙ regroup (concat cs) end_card spaces rest
  where
    regroup : (a b c d : List ℕ) → ((a ++ (b ++ [])) ++ c) ++ d ≡ a ++ (b ++ (c ++ d))
    regroup a b c d = simp (append_assoc, append-nil)

covers : (n : ℕ) → n ≤ whole_blocks n
covers n = omega arith

header-long : (cs : List (List ℕ)) (rest : List ℕ) → AllByRecursion IsInnerCard cs → header_length (length cs) ≤ length (header_text (cs ++ end_card ∷ []) ++ rest)
unfolding header_text
header-long cs rest all =
    let body = concat (cs ++ end_card ∷ []) in
    let pad = whole_blocks (length body) - length body in
    let len : length body ≡ 80 * (length cs + 1) =
    let sum = length-append (concat cs) end_card in
    let inner = concat-length cs all in
    ap length (concat-append cs (end_card ∷ [])) ∙ omega (arith, sum, inner) in
    let blocks : whole_blocks (length body) ≡ header_length (length cs) = ap whole_blocks len in
    let a = length-append (body ++ replicate pad 32) rest in
    let b = length-append body (replicate pad 32) in
    let c = length-replicate {A = ℕ} pad 32 in
    omega (arith, a, b, c, covers (length body), blocks)

pub written-headers : WrittenHeadersAreRead
written-headers cs rest all few =
    let text = header_text (cs ++ end_card ∷ []) ++ rest in
    let ys = replicate (whole_blocks (length (concat (cs ++ end_card ∷ []))) - length (concat (cs ++ end_card ∷ []))) 32 ++ rest in
    let parts : text ≡ concat cs ++ (end_card ++ ys) = header-parts cs rest in
    let k = length text / 80 - (length cs + 1) in
    let inner = concat-length cs all in
    let count : length (concat cs ++ (end_card ++ ys)) / 80 ≡ length cs + suc k =
    let sum = length-append (concat cs) (end_card ++ ys) in
    let more = length-append end_card ys in
    let same = ap length parts in
    omega (arith, sum, more, inner, same) in
    let is : cards text ≡ cs ++ end_card ∷ first_chunks 80 k ys = ap cards parts ∙ text-cards cs ys k all count in
    let end = text-end cs text (first_chunks 80 k ys) all few is in
    let front : take (80 * length cs) text ≡ concat cs = ap (take (80 * length cs)) parts ∙ take_at (concat cs) (end_card ++ ys) (80 * length cs) inner in
    let ascii : place_not_ascii (take (80 * length cs) text) ≡ None = ap place_not_ascii front ∙ position-none is_text_byte (concat cs) (concat-text cs all) in
    let first : take (length cs) (cards text) ≡ cs = ap (take (length cs)) is ∙ take_at cs (end_card ∷ first_chunks 80 k ys) (length cs) refl in
    end-cards text (length cs) end (header-long cs rest all) ascii
    ∙ ap (λ xs. option_map_or {U = Result (Header × ℕ) HeaderFault} (λ fault. Err fault) (option_or (value_fault xs) (twice_fault xs)) (Ok (header_of xs, header_length (length cs)))) first
