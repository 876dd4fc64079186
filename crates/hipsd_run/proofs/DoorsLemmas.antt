-- The doors of a vector, which are handed on as a slice.
use Rattle.std.proofs.Common.{◌≡◌, ℕ, List, ◌++◌, length, take, drop, sym, ap, ◌∙◌, subst}
use Rattle.std.proofs.Math.Seq.{take-append_seam}

-- what is written to all places of a vector is what it has
pub written_back : {X : Type 0} (n : ℕ) (xs ys : List X) → length xs ≡ n → take n (xs ++ drop (length xs) ys) ≡ xs
written_back n xs ys same = ap (λ k. take k (xs ++ drop (length xs) ys)) (sym same) ∙ take-append_seam xs (drop (length xs) ys)

-- what is said of the slice before and after is so of the vector
pub of_doors : {X : Type 0} (P : List X → List X → Type 0) (olds news slice slice' : List X) → slice ≡ olds → news ≡ slice' → P slice slice' → P olds news
of_doors P olds news slice slice' old new said = subst (λ xs. P xs news) old (subst (λ ys. P slice ys) (sym new) said)
