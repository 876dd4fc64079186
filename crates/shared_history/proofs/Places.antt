-- The places of a seat's own states.
use Rattle.std.proofs.Common.{◌≡◌, ◌≢◌, ℕ, ◌+◌, ◌≤◌, ◌==◌, Bool, true, false, List, [], ◌∷◌, ◌++◌, length, refl, ap, sym, ◌∙◌, arith, length-append}
use Rattle.std.specs.Prelude.{if◌then◌else◌}
use Rattle.std.proofs.lemmas.Bool.Decides.{nat_tests}
use Rattle.std.proofs.lemmas.List.{append-nil}
use mathlib.Core.List.{IsPrefix}
use Rattle.shared_history.specs.Histories.{places_from, places_of}

-- one place more, where the test says so
abbrev pub one_if : Bool → ℕ → List ℕ → List ℕ
one_if b place places = if b then place ∷ places else places

one_if-append : (b : Bool) (place : ℕ) (xs ys : List ℕ) → one_if b place (xs ++ ys) ≡ one_if b place xs ++ ys
one_if-append true place xs ys = refl
one_if-append false place xs ys = refl

one_more : (owner seat place : ℕ) (owners : List ℕ) → places_from place seat (owner ∷ owners) ≡ one_if (owner == seat) place (places_from (place + 1) seat owners)
one_more owner seat place owners = by_test (owner == seat) place (places_from (place + 1) seat owners)
  where
    by_test : (b : Bool) (p : ℕ) (xs : List ℕ) → (if b then p ∷ xs else xs) ≡ one_if b p xs
    by_test b p xs = refl

pub places_from-append : (place seat : ℕ) (xs ys : List ℕ) → places_from place seat (xs ++ ys) ≡ places_from place seat xs ++ places_from (place + length xs) seat ys
places_from-append place seat [] ys = ap (λ (p : ℕ). places_from p seat ys) (omega arith)
places_from-append place seat (x ∷ xs) ys =
    let there : (place + 1) + length xs ≡ place + length (x ∷ xs) = omega arith in
    ap (one_if (x == seat) place) (places_from-append (place + 1) seat xs ys ∙ ap (λ (p : ℕ). places_from (place + 1) seat xs ++ places_from p seat ys) there)
    ∙ one_if-append (x == seat) place (places_from (place + 1) seat xs) (places_from (place + length (x ∷ xs)) seat ys)

-- a list that is none more is none
none_more : {X : Type 0} (xs ys : List X) → length (xs ++ ys) ≡ length xs → xs ++ ys ≡ xs
none_more xs [] e = append-nil xs
none_more xs (y ∷ ys) e = absurd (omega (arith, length-append xs (y ∷ ys), e))

-- where others went on with as many of that seat's, these are the same
pub same_places : (seat : ℕ) (xs ys : List ℕ) → IsPrefix xs ys → length (places_of seat ys) ≡ length (places_of seat xs) → places_of seat ys ≡ places_of seat xs
same_places seat xs ys p e =
    let split : places_of seat ys ≡ places_of seat xs ++ places_from (1 + length xs) seat p.0 = ap (places_of seat) (sym p.1) ∙ places_from-append 1 seat xs p.0 in
    split ∙ none_more (places_of seat xs) (places_from (1 + length xs) seat p.0) (ap length (sym split) ∙ e)

last_own : (b : Bool) (place : ℕ) → b ≡ true → one_if b place [] ≡ place ∷ []
last_own b place e = ap (λ (t : Bool). one_if t place []) e

last_other : (b : Bool) (place : ℕ) → b ≡ false → one_if b place [] ≡ []
last_other b place e = ap (λ (t : Bool). one_if t place []) e

-- one more of that seat's, or of another's
pub places_of-own : (seat : ℕ) (xs : List ℕ) → places_of seat (xs ++ seat ∷ []) ≡ places_of seat xs ++ (length xs + 1) ∷ []
places_of-own seat xs =
    let is : (seat == seat) ≡ true = grind (arith, nat_tests) in
    places_from-append 1 seat xs (seat ∷ []) ∙ ap (λ (l : List ℕ). places_of seat xs ++ l) (last_own (seat == seat) (1 + length xs) is ∙ ap (λ (p : ℕ). p ∷ []) (omega arith))

pub places_of-other : (seat other : ℕ) (xs : List ℕ) → other ≢ seat → places_of seat (xs ++ other ∷ []) ≡ places_of seat xs
places_of-other seat other xs apart =
    let is : (other == seat) ≡ false = grind (arith, nat_tests) in
    places_from-append 1 seat xs (other ∷ []) ∙ ap (λ (l : List ℕ). places_of seat xs ++ l) (last_other (other == seat) (1 + length xs) is) ∙ append-nil (places_of seat xs)

one_if-fits : (b : Bool) (place : ℕ) (xs : List ℕ) (n : ℕ) → length xs ≤ n → length (one_if b place xs) ≤ n + 1
one_if-fits true place xs n h = omega (arith, h)
one_if-fits false place xs n h = omega (arith, h)

-- there are at most as many as owners
pub places_fit : (place seat : ℕ) (xs : List ℕ) → length (places_from place seat xs) ≤ length xs
places_fit place seat [] = omega arith
places_fit place seat (x ∷ xs) =
    let fits : length (one_if (x == seat) place (places_from (place + 1) seat xs)) ≤ length xs + 1 = one_if-fits (x == seat) place (places_from (place + 1) seat xs) (length xs) (places_fit (place + 1) seat xs) in
    omega (arith, fits)
