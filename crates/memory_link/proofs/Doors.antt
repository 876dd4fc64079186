-- What a door in memory tells of its connections.
use Rattle.std.proofs.Common.{◌≡◌, ℕ, suc, zero, ◌+◌, ◌≤◌, List, [], ◌∷◌, ◌++◌, length, take, drop, map, Some, None, refl, ap, ◌∙◌, slice_get, add-one, arith}
use Rattle.survey_link.specs.Door.{HasNumber}
use Rattle.memory_link.specs.Memory.{SourceState, SinkState, connection_of, numbered, numbered_from}

-- ---- the next connection

same_head : {X : Type 0} (y x : X) → Some y ≡ Some x → y ≡ x
same_head y x e = cc

none_left : {X : Type 0} (xs : List X) (n : ℕ) → slice_get xs n ≡ None → drop n xs ≡ []
none_left [] zero e = refl
none_left [] (suc n) e = refl
none_left (x ∷ xs) zero e = cc
none_left (x ∷ xs) (suc n) e = none_left xs n e

pub none_waits : (all : List (SourceState × SinkState)) (next : ℕ) → slice_get all next ≡ None → numbered_from next (drop next all) ≡ []
none_waits all next e = ap (numbered_from next) (none_left all next e)

next_then_rest : {X : Type 0} (xs : List X) (n : ℕ) (x : X) → slice_get xs n ≡ Some x → drop n xs ≡ x ∷ drop (suc n) xs
next_then_rest [] n x e = cc
next_then_rest (y ∷ ys) zero x e = ap (λ z. z ∷ ys) (same_head y x e)
next_then_rest (y ∷ ys) (suc n) x e = next_then_rest ys n x e

before_then_next : (xs : List (SourceState × SinkState)) (from n : ℕ) (x : SourceState × SinkState) → slice_get xs n ≡ Some x
    → numbered_from from (take (suc n) xs) ≡ numbered_from from (take n xs) ++ connection_of (numbered (from + n) x) ∷ []
before_then_next [] from n x e = cc
before_then_next (y ∷ ys) from zero x e =
    let here : from + 0 ≡ from = omega arith in
    rw (same_head y x e, here) refl
before_then_next (y ∷ ys) from (suc n) x e =
    let there : from + 1 + n ≡ from + suc n = omega arith in
    ap (λ l. connection_of (numbered from y) ∷ l) (rw (← there) (before_then_next ys (from + 1) n x e))

pub so_many : (xs : List (SourceState × SinkState)) (from n : ℕ) → n ≤ length xs → length (numbered_from from (take n xs)) ≡ n
so_many [] from zero few = refl
so_many [] from (suc n) few = absurd (omega (arith, few))
so_many (x ∷ xs) from zero few = refl
so_many (x ∷ xs) from (suc n) few = ap suc (so_many xs (from + 1) n (omega (arith, few)))

pub takes_next : (all returned : List (SourceState × SinkState)) (next : ℕ) (ends given : SourceState × SinkState) → next ≤ length all → slice_get all next ≡ Some ends → given ≡ numbered next ends
    → (numbered_from next (drop next all) ≡ connection_of given ∷ numbered_from (next + 1) (drop (next + 1) all))
    × (numbered_from 0 (take (next + 1) all) ≡ numbered_from 0 (take next all) ++ connection_of given ∷ [])
    × (map connection_of returned ≡ map connection_of returned)
    × HasNumber (length (numbered_from 0 (take next all))) (connection_of given)
takes_next all returned next ends given few e is =
    let counted : 0 + next ≡ next = omega arith in (
      rw (is, add-one) (ap (numbered_from next) (next_then_rest all next ends e) ∙ ap (λ n. connection_of (numbered next ends) ∷ numbered_from n (drop (suc next) all)) (add-one next)),
      rw (is, add-one) (before_then_next all 0 next ends e ∙ ap (λ n. numbered_from 0 (take next all) ++ connection_of (numbered n ends) ∷ []) counted),
      refl,
      rw (is, so_many all 0 next few) (refl, refl),
    )
