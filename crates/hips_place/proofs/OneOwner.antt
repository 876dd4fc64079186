-- Each state of a history but the first is the event of one session.
use Rattle.std.proofs.Common.{◌≡◌, ◌⊎◌, inl, inr, ℕ, zero, suc, ◌+◌, ◌<◌, List, [], ◌∷◌, ◌++◌, length, map, refl, sym, ap, ◌∙◌, subst, arith}
use Rattle.std.specs.Prelude.{All, Contains, slice_index, slice_index_or}
use Rattle.std.specs.List.{concat, range_with_len}
use Rattle.std.specs.List.Sorted.{IsStrictlyIncreasing}
use Rattle.std.proofs.lemmas.List.Elements.{Contains-append_left, Contains-append_right, Contains-append_cases, Contains-push_cases, All-head, All-tail}
use Rattle.shared_history.specs.Histories.{places_of}
use Rattle.shared_history.specs.Laws.{PlacesAreOwn, IsOneSeats, EachIsOneSeats}
use Rattle.hips_place.specs.Place.{OnePlace, owns_of, own_at, IsOneSessions}

nothing_in : {X : Type 0} (x : X) → Contains [] x → ⊥
nothing_in x h = omega (arith, h.1)

first_or_later : {X : Type 0} (x y : X) (xs : List X) → Contains (x ∷ xs) y → (x ≡ y) ⊎ Contains xs y
first_or_later x y xs h = elim (Contains-append_cases (x ∷ []) xs y h) as (λ _. (x ≡ y) ⊎ Contains xs y) [
  | inl first ↦ elim (Contains-push_cases [] x y first) as (λ _. (x ≡ y) ⊎ Contains xs y) [
    | inl none ↦ absurd (nothing_in y none)
    | inr same ↦ inl same
  ]
  | inr later ↦ inr later
]

-- ---- ascending numbers

increasing_tail : (x : ℕ) (xs : List ℕ) → IsStrictlyIncreasing (x ∷ xs) → IsStrictlyIncreasing xs
increasing_tail x xs h k more =
    let place : suc k + 1 ≡ suc (k + 1) = omega arith in
    subst (λ (n : ℕ). slice_index xs k < slice_index (x ∷ xs) n) place (h (suc k) (omega (arith, more)))

first_least : (x y : ℕ) (xs : List ℕ) → IsStrictlyIncreasing (x ∷ xs) → Contains xs y → x < y
first_least x y [] h there = absurd (nothing_in y there)
first_least x y (z ∷ xs) h there =
    let next : x < z = h 0 (omega arith) in
    elim (first_or_later z y xs there) as (λ _. x < y) [
      | inl same ↦ omega (arith, next, same)
      | inr later ↦ let rest : z < y = first_least z y xs (increasing_tail x (z ∷ xs) h) later in omega (arith, next, rest)
    ]

apart : (xs ys : List ℕ) (x y : ℕ) → IsStrictlyIncreasing (xs ++ ys) → Contains xs x → Contains ys y → x < y
apart [] ys x y h here there = absurd (nothing_in x here)
apart (z ∷ xs) ys x y h here there = elim (first_or_later z x xs here) as (λ _. x < y) [
  | inl same ↦ let least : z < y = first_least z y (xs ++ ys) h (Contains-append_right xs ys y there) in omega (arith, least, same)
  | inr later ↦ apart xs ys x y (increasing_tail z (xs ++ ys) h) later there
]

increasing_rest : (xs ys : List ℕ) → IsStrictlyIncreasing (xs ++ ys) → IsStrictlyIncreasing ys
increasing_rest [] ys h = h
increasing_rest (x ∷ xs) ys h = increasing_rest xs ys (increasing_tail x (xs ++ ys) h)

-- ---- lists in a row

in_concat : (xss : List (List ℕ)) (s x : ℕ) → Contains (slice_index_or xss s []) x → Contains (concat xss) x
in_concat [] s x h = absurd (nothing_in x h)
in_concat (xs ∷ xss) zero x h = Contains-append_left xs (concat xss) x h
in_concat (xs ∷ xss) (suc s) x h = Contains-append_right xs (concat xss) x (in_concat xss s x h)

-- one of the lists has it
record FoundIn (xss : List (List ℕ)) (x : ℕ) : Type 0 where
  pub session : ℕ
  pub there : Contains (slice_index_or xss session []) x

from_concat : (xss : List (List ℕ)) (x : ℕ) → Contains (concat xss) x → FoundIn xss x
from_concat [] x h = absurd (nothing_in x h)
from_concat (xs ∷ xss) x h = elim (Contains-append_cases xs (concat xss) x h) as (λ _. FoundIn (xs ∷ xss) x) [
  | inl here ↦ record { session = 0; there = here }
  | inr later ↦ let rest = from_concat xss x later in record { session = suc rest.session; there = rest.there }
]

one_of_them : (xss : List (List ℕ)) (s t x : ℕ) → IsStrictlyIncreasing (concat xss) → Contains (slice_index_or xss s []) x → Contains (slice_index_or xss t []) x → s ≡ t
one_of_them [] s t x h here there = absurd (nothing_in x here)
one_of_them (xs ∷ xss) zero zero x h here there = refl
one_of_them (xs ∷ xss) zero (suc t) x h here there = let less : x < x = apart xs (concat xss) x x h here (in_concat xss t x there) in absurd (omega (arith, less))
one_of_them (xs ∷ xss) (suc s) zero x h here there = let less : x < x = apart xs (concat xss) x x h there (in_concat xss s x here) in absurd (omega (arith, less))
one_of_them (xs ∷ xss) (suc s) (suc t) x h here there = ap suc (one_of_them xss s t x (increasing_rest xs (concat xss) h) here there)

-- ---- owners

-- where the sessions of each door have all that is the seat's with its number
pub one_sessions : PlacesAreOwn → EachIsOneSeats → (owns : List (List (List ℕ))) (owners : List ℕ) → ((d : ℕ) → d < length owns → concat (slice_index_or owns d []) ≡ places_of d owners)
    → All (λ owner. owner < length owns) owners → (place : ℕ) → 0 < place → place < length owners + 1 → IsOneSessions owns place
one_sessions own each owns owners doors below place some within =
    let one : IsOneSeats (length owns) owners place = each (length owns) owners below place some (omega (arith, within)) in
    let mine : Contains (concat (slice_index_or owns one.seat [])) place = subst (λ (l : List ℕ). Contains l place) (sym (doors one.seat one.seated)) one.own in
    let found = from_concat (slice_index_or owns one.seat []) place mine in
    let once : IsStrictlyIncreasing (concat (slice_index_or owns one.seat [])) = subst IsStrictlyIncreasing (sym (doors one.seat one.seated)) (own.once one.seat owners) in
    record {
      door = one.seat;
      session = found.session;
      own = found.there;
      alone = λ other another h. (
          let there : other < length owns = within_owns owns other another place h in
          let theirs : Contains (places_of other owners) place = subst (λ (l : List ℕ). Contains l place) (doors other there) (in_concat (slice_index_or owns other []) another place h) in
          let same : other ≡ one.seat = one.alone other theirs in
          (same, one_of_them (slice_index_or owns one.seat []) another found.session place once (subst (λ (d : ℕ). Contains (own_at owns d another) place) same h) found.there)
          );
    }
  where
    within_owns : (owns : List (List (List ℕ))) (other another place : ℕ) → Contains (own_at owns other another) place → other < length owns
    within_owns [] other another place h = absurd (nothing_in place h)
    within_owns (sessions ∷ owns) zero another place h = omega arith
    within_owns (sessions ∷ owns) (suc other) another place h = let rest = within_owns owns other another place h in omega (arith, rest)

-- the places are those of the seats, in order
pub each_door : (owners : List ℕ) (ps : List OnePlace) (from : ℕ) → All (λ p. concat (owns_of p) ≡ places_of p.first.board.seat.number owners) ps
    → map (λ (p : OnePlace). p.first.board.seat.number) ps ≡ range_with_len from (length ps)
    → (d : ℕ) → d < length ps → concat (slice_index_or (map owns_of ps) d []) ≡ places_of (from + d) owners
each_door owners [] from all numbers d below = absurd (omega (arith, below))
each_door owners (p ∷ ps) from all numbers zero below =
    let number : p.first.board.seat.number ≡ from + 0 = (let is : p.first.board.seat.number ≡ from = cc (numbers) in omega (arith, is)) in
    All-head (λ p. concat (owns_of p) ≡ places_of p.first.board.seat.number owners) p ps all ∙ ap (λ (n : ℕ). places_of n owners) number
each_door owners (p ∷ ps) from all numbers (suc d) below =
    let rest : map (λ (p : OnePlace). p.first.board.seat.number) ps ≡ range_with_len (from + 1) (length ps) = cc (numbers) in
    let place : from + 1 + d ≡ from + suc d = omega arith in
    each_door owners ps (from + 1) (All-tail (λ p. concat (owns_of p) ≡ places_of p.first.board.seat.number owners) p ps all) rest d (omega (arith, below)) ∙ ap (λ (n : ℕ). places_of n owners) place
