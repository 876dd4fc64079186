-- The first doors of some, which are served.
use Rattle.std.proofs.Common.{◌≡◌, inl, inr, ℕ, List, [], ◌∷◌, ◌++◌, length, map, take, sym, ap, ◌∙◌, subst}
use Rattle.std.proofs.Math.Seq.{take-append_seam}
use Rattle.std.proofs.lemmas.List.{map-append}
use Rattle.hips_place.specs.Place.{SomeRises}

pub first_of : {X : Type 0} (places : ℕ) (front back : List X) → length front ≡ places → take places (front ++ back) ≡ front
first_of places front back same = ap (λ n. take n (front ++ back)) (sym same) ∙ take-append_seam front back

rises_in_front : (olds news more further : List ℕ) → SomeRises olds news → SomeRises (olds ++ more) (news ++ further)
rises_in_front [] news more further rises = absurd rises
rises_in_front (old ∷ olds) [] more further rises = absurd rises
rises_in_front (old ∷ olds) (new ∷ news) more further (inl here) = inl here
rises_in_front (old ∷ olds) (new ∷ news) more further (inr later) = inr (rises_in_front olds news more further later)

-- a door's count rose among the first of some
pub rises_among : {D : Type 0} (faults : D → ℕ) (front front' back : List D) → SomeRises (map faults front) (map faults front')
    → SomeRises (map faults (front ++ back)) (map faults (front' ++ back))
rises_among faults front front' back rises =
    subst (λ (xs : List ℕ). SomeRises xs (map faults (front' ++ back))) (sym (map-append faults front back))
    (subst (λ (xs : List ℕ). SomeRises (map faults front ++ map faults back) xs) (sym (map-append faults front' back))
    (rises_in_front (map faults front) (map faults front') (map faults back) (map faults back) rises))
