-- Beginnings of one list.
use Rattle.std.proofs.Common.{◌≡◌, ◌≤◌, List, [], ◌∷◌, length, refl, arith}
use mathlib.Core.List.{IsPrefix}

-- of two beginnings of one list the shorter begins the longer
pub prefix_shorter : {X : Type 0} (xs ys zs : List X) → IsPrefix xs zs → IsPrefix ys zs → length xs ≤ length ys → IsPrefix xs ys
prefix_shorter [] ys zs p q h = (ys, refl)
prefix_shorter (x ∷ xs) [] zs p q h = absurd (omega arith)
prefix_shorter (x ∷ xs) (y ∷ ys) [] p q h = absurd (cc (p.1))
prefix_shorter (x ∷ xs) (y ∷ ys) (z ∷ zs) p q h =
    let heads : x ≡ y = cc (p.1, q.1) in
    let rest = prefix_shorter xs ys zs (p.0, cc (p.1)) (q.0, cc (q.1)) (omega arith) in
    (rest.0, cc (heads, rest.1))

-- a beginning as long as the whole is the whole
pub prefix_whole : {X : Type 0} (xs ys : List X) → IsPrefix xs ys → length ys ≤ length xs → xs ≡ ys
prefix_whole [] [] p h = refl
prefix_whole [] (y ∷ ys) p h = absurd (omega arith)
prefix_whole (x ∷ xs) [] p h = absurd (cc (p.1))
prefix_whole (x ∷ xs) (y ∷ ys) p h =
    let rest = prefix_whole xs ys (p.0, cc (p.1)) (omega arith) in cc (p.1, rest)
