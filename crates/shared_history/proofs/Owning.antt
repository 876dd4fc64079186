-- Which places are a seat's own.
use Rattle.std.proofs.Common.{◌≡◌, ℕ, zero, suc, ◌+◌, ◌-◌, ◌<◌, ◌≤◌, ◌==◌, Bool, true, false, List, [], ◌∷◌, length, slice_get, Some, inl, inr, refl, ap, sym, ◌∙◌, subst, arith}
use Rattle.std.specs.Prelude.{◌⊎◌, Contains, slice_index}
use Rattle.std.specs.List.Sorted.{IsStrictlyIncreasing}
use Rattle.std.proofs.lemmas.Bool.Decides.{nat_tests}
use Rattle.std.proofs.lemmas.List.Elements.{Contains-push_cases, Contains-append_cases, Contains-append_right, Contains-get_or}
use Rattle.std.proofs.lemmas.Option.{none-some, same_Some, slice_get-get_or}
use Rattle.shared_history.specs.Histories.{places_from, places_of}
use Rattle.shared_history.specs.Laws.{PlacesAreOwn, EachIsOneSeats}
use Rattle.shared_history.proofs.Places.{one_if, places_of-own}

nothing_in : {X : Type 0} (x : X) → Contains [] x → ⊥
nothing_in x h = omega (arith, h.1)

one_in : (p x : ℕ) → Contains (p ∷ []) x → x ≡ p
one_in p x h = elim (Contains-push_cases [] p x h) as (λ _. x ≡ p) [
  | inl none ↦ absurd (nothing_in x none)
  | inr same ↦ sym same
]

in_one_if : (b : Bool) (p x : ℕ) (xs : List ℕ) → Contains (one_if b p xs) x → ((b ≡ true) × (x ≡ p)) ⊎ Contains xs x
in_one_if true p x xs h = elim (Contains-append_cases (p ∷ []) xs x h) as (λ _. ((true ≡ true) × (x ≡ p)) ⊎ Contains xs x) [
  | inl first ↦ inl (refl, one_in p x first)
  | inr later ↦ inr later
]
in_one_if false p x xs h = inr h

later_in : (b : Bool) (p x : ℕ) (xs : List ℕ) → Contains xs x → Contains (one_if b p xs) x
later_in true p x xs h = Contains-append_right (p ∷ []) xs x h
later_in false p x xs h = h

first_in : (b : Bool) (p x : ℕ) (xs : List ℕ) → b ≡ true → p ≡ x → Contains (one_if b p xs) x
first_in b p x xs is same = subst (λ (t : Bool). Contains (one_if t p xs) x) (sym is) (0, omega arith, same)

owned_from : (p seat place : ℕ) (xs : List ℕ) → Contains (places_from p seat xs) place → (p ≤ place) × (slice_get xs (place - p) ≡ Some seat)
owned_from p seat place [] h = absurd (nothing_in place h)
owned_from p seat place (x ∷ xs) h = elim (in_one_if (x == seat) p place (places_from (p + 1) seat xs) h) as (λ _. (p ≤ place) × (slice_get (x ∷ xs) (place - p) ≡ Some seat)) [
  | inl here ↦
      let is : (x == seat) ≡ true = here.0 in
      let same : x ≡ seat = grind (arith, nat_tests) in
      let none : place - p ≡ 0 = omega (arith, here.1) in
      (omega (arith, here.1), ap (slice_get (x ∷ xs)) none ∙ ap Some same)
  | inr later ↦
      let rest = owned_from (p + 1) seat place xs later in
      let more : place - p ≡ suc (place - (p + 1)) = omega (arith, rest.0) in
      (omega (arith, rest.0), ap (slice_get (x ∷ xs)) more ∙ rest.1)
]

told_from : (p seat place : ℕ) (xs : List ℕ) → slice_get xs place ≡ Some seat → Contains (places_from p seat xs) (p + place)
told_from p seat place [] h = absurd (none-some seat h)
told_from p seat zero (x ∷ xs) h =
    let same : x ≡ seat = same_Some x seat h in
    let is : (x == seat) ≡ true = grind (arith, nat_tests) in
    first_in (x == seat) p (p + 0) (places_from (p + 1) seat xs) is (omega arith)
told_from p seat (suc place) (x ∷ xs) h =
    let there : p + 1 + place ≡ p + suc place = omega arith in
    later_in (x == seat) p (p + suc place) (places_from (p + 1) seat xs) (subst (Contains (places_from (p + 1) seat xs)) there (told_from (p + 1) seat place xs h))

increasing_cons : (p : ℕ) (xs : List ℕ) → ((x : ℕ) → Contains xs x → p < x) → IsStrictlyIncreasing xs → IsStrictlyIncreasing (p ∷ xs)
increasing_cons p xs first rest zero more = first (slice_index xs 0) (Contains-get_or xs 0 0 (omega (arith, more)))
increasing_cons p xs first rest (suc k) more =
    let place : suc (k + 1) ≡ suc k + 1 = omega arith in
    subst (λ (n : ℕ). slice_index xs k < slice_index (p ∷ xs) n) place (rest k (omega (arith, more)))

increasing_if : (b : Bool) (p : ℕ) (xs : List ℕ) → ((x : ℕ) → Contains xs x → p < x) → IsStrictlyIncreasing xs → IsStrictlyIncreasing (one_if b p xs)
increasing_if true p xs first rest = increasing_cons p xs first rest
increasing_if false p xs first rest = rest

increasing_from : (p seat : ℕ) (xs : List ℕ) → IsStrictlyIncreasing (places_from p seat xs)
increasing_from p seat [] k more = absurd (omega (arith, more))
increasing_from p seat (x ∷ xs) k more =
    increasing_if (x == seat) p (places_from (p + 1) seat xs) (λ y h. (let own = owned_from (p + 1) seat y xs h in omega (arith, own.0))) (increasing_from (p + 1) seat xs) k more

pub places_are_own : PlacesAreOwn
places_are_own = record {
  owned = λ seat place owners h. (let own = owned_from 1 seat place owners h in (omega (arith, own.0), own.1));
  told = λ seat place owners h. (let there : 1 + place ≡ place + 1 = omega arith in subst (Contains (places_of seat owners)) there (told_from 1 seat place owners h));
  once = λ seat owners. increasing_from 1 seat owners;
  more = λ seat owners. places_of-own seat owners;
}

pub each_is_one_seats : EachIsOneSeats
each_is_one_seats seats owners all place some within =
    let there : place - 1 + 1 ≡ place = omega (arith, some) in
    let below : place - 1 < length owners = omega (arith, some, within) in
    let is : slice_get owners (place - 1) ≡ Some (slice_index owners (place - 1)) = slice_get-get_or owners (place - 1) 0 below in record {
      seat = slice_index owners (place - 1);
      seated = all (place - 1) 0 below;
      own = subst (Contains (places_of (slice_index owners (place - 1)) owners)) there (places_are_own.told (slice_index owners (place - 1)) (place - 1) owners is);
      alone = λ other h. same_Some other (slice_index owners (place - 1)) (sym (places_are_own.owned other place owners h).1 ∙ is);
    }
