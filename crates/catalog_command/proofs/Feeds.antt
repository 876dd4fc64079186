-- Where the first line feed stands in some bytes, and in more of them; and what the parts of an input then are.
use Rattle.std.proofs.Common.{◌≡◌, ℕ, ◌+◌, ◌<◌, ◌≤◌, Bool, true, false, cond, List, [], ◌∷◌, ◌++◌, length, get_or, take, drop, Option, Some, None, refl, sym, ap, ◌∙◌, arith, length-append}
use Rattle.std.specs.Prelude.{nat_lt, ◌==◌, position, count_by}
use Rattle.std.specs.List.{position_or_len}
use Rattle.std.proofs.lemmas.Bool.Decides.{nat_tests}
use Rattle.std.proofs.lemmas.List.{get_or_append_left, get_or-take, take-append-le, drop-append-le, take-append-drop, length-take-le}
use Rattle.std.proofs.lemmas.List.Quantifiers.{position-Some}
use Rattle.std.proofs.lemmas.List.Splits.{length-slice_split}
use Rattle.std.proofs.lemmas.List.Sums.{position_or_len_is, fails_before_first}
use Rattle.catalog_command.specs.Lines.{line_feed, most_bytes, parts}
use Rattle.catalog_command.specs.Unread.{place_of_feed}
use Rattle.hips_catalog.proofs.Splitting.{uncut, cut_at}

abbrev is_feed : ℕ → Bool
is_feed byte = byte == line_feed

-- the first place in a list is the first one in a longer list
pub position_append : (p : ℕ → Bool) (xs ys : List ℕ) (i : ℕ) → position p xs ≡ Some i → position p (xs ++ ys) ≡ Some i
position_append p xs ys i e =
    let found = position-Some p xs i 0 e in
    let size = length-append xs ys in
    let inside : i < length xs = found.0 in
    let within : i < length (xs ++ ys) = omega (arith, size, inside) in
    let at : position_or_len p (xs ++ ys) ≡ i =
    position_or_len_is p (xs ++ ys) i 0 (omega (arith, within))
    (λ k h. let low : k < length xs = omega (arith, h, inside) in ap p (get_or_append_left xs ys 0 k low) ∙ found.2 k h)
    (λ _. ap p (get_or_append_left xs ys 0 i inside) ∙ found.1) in
    let test : nat_lt i (length (xs ++ ys)) ≡ true = grind (arith, nat_tests) in
    ap (λ n. cond (nat_lt n (length (xs ++ ys))) (Some n) None) at ∙ ap (λ t. cond t (Some i) None) test

pub feed_inside : (xs : List ℕ) (i : ℕ) → place_of_feed xs ≡ Some i → i < length xs
feed_inside xs i e = (position-Some is_feed xs i 0 e).0

-- the first place among the first bytes is the first one of all
pub feed_in_front : (n : ℕ) (xs : List ℕ) (i : ℕ) → n ≤ length xs → place_of_feed (take n xs) ≡ Some i → (place_of_feed xs ≡ Some i) × (i < n)
feed_in_front n xs i fits e =
    let whole : place_of_feed (take n xs ++ drop n xs) ≡ Some i = position_append is_feed (take n xs) (drop n xs) i e in
    let inside = feed_inside (take n xs) i e in
    let size = length-take-le n xs fits in
    (ap place_of_feed (sym (take-append-drop n xs)) ∙ whole, omega (arith, inside, size))

absent : (p : ℕ → Bool) (xs : List ℕ) (t : Bool) → nat_lt (position_or_len p xs) (length xs) ≡ t → cond t (Some (position_or_len p xs)) None ≡ None → length xs ≤ position_or_len p xs
absent p xs true is e = cc
absent p xs false is e = grind (arith, nat_tests)

-- where there is none among the first bytes, the first place, if there is one, lies behind them
pub feed_behind : (n : ℕ) (xs : List ℕ) (i : ℕ) → n ≤ length xs → place_of_feed (take n xs) ≡ None → place_of_feed xs ≡ Some i → (i < n → ⊥)
feed_behind n xs i fits none e low =
    let size = length-take-le n xs fits in
    let beyond = absent is_feed (take n xs) (nat_lt (position_or_len is_feed (take n xs)) (length (take n xs))) refl none in
    let not_here : is_feed (get_or (take n xs) i 0) ≡ false = fails_before_first is_feed (take n xs) i 0 (omega (arith, beyond, size, low)) in
    let here : is_feed (get_or xs i 0) ≡ true = (position-Some is_feed xs i 0 e).1 in
    let same : get_or (take n xs) i 0 ≡ get_or xs i 0 = get_or-take n xs i 0 low in
    let both : true ≡ false = sym here ∙ ap is_feed (sym same) ∙ not_here in
    cc

-- ---- the parts

-- bytes whose first line feed is among those at the front
pub parts_line : (front more : List ℕ) (i : ℕ) → place_of_feed front ≡ Some i → parts (front ++ more) ≡ take i front ∷ parts (drop (i + 1) front ++ more)
parts_line front more i e =
    let inside = feed_inside front i e in
    let first : take i (front ++ more) ≡ take i front = take-append-le i front more (omega (arith, inside)) in
    let rest : drop (i + 1) (front ++ more) ≡ drop (i + 1) front ++ more = drop-append-le (i + 1) front more (omega (arith, inside)) in
    cut_at is_feed (front ++ more) 0 i (position_append is_feed front more i e)
    ∙ ap (λ line. line ∷ parts (drop (i + 1) (front ++ more))) first ∙ ap (λ bytes. take i front ∷ parts bytes) rest

pub parts_none : (bytes : List ℕ) → place_of_feed bytes ≡ None → parts bytes ≡ bytes ∷ []
parts_none bytes e = uncut is_feed bytes e

-- there is always a part
pub some_parts : (bytes : List ℕ) → 0 < length (parts bytes)
some_parts bytes = let size : length (parts bytes) ≡ count_by is_feed bytes + 1 = length-slice_split is_feed bytes in omega (arith, size)

-- the first part of bytes that have no line feed at the front is long
pub record LongPart (bytes : List ℕ) : Type 0 where
  pub part : List ℕ
  pub more : List (List ℕ)
  pub is : parts bytes ≡ part ∷ more
  pub long : most_bytes ≤ length part

long_by : (bytes : List ℕ) → most_bytes ≤ length bytes → place_of_feed (take most_bytes bytes) ≡ None → (found : Option ℕ) → place_of_feed bytes ≡ found → LongPart bytes
long_by bytes fits none None e = record { part = bytes; more = []; is = parts_none bytes e; long = fits }
long_by bytes fits none (Some i) e =
    let inside = feed_inside bytes i e in
    let behind = feed_behind most_bytes bytes i fits none e in
    let far : most_bytes ≤ i = omega (arith, behind) in
    let size = length-take-le i bytes (omega (arith, inside)) in
    record { part = take i bytes; more = parts (drop (i + 1) bytes); is = cut_at is_feed bytes 0 i e; long = omega (arith, size, far) }

pub parts_long : (front more : List ℕ) → most_bytes ≤ length front → place_of_feed (take most_bytes front) ≡ None → LongPart (front ++ more)
parts_long front more fits none =
    let size = length-append front more in
    let same : take most_bytes (front ++ more) ≡ take most_bytes front = take-append-le most_bytes front more fits in
    long_by (front ++ more) (omega (arith, size, fits)) (ap place_of_feed same ∙ none) (place_of_feed (front ++ more)) refl
