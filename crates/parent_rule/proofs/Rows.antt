-- A row that a loop fills place by place, from the left.
use Rattle.std.proofs.Common.{◌≡◌, ◌≢◌, ℕ, ◌+◌, ◌<◌, List, [], ◌∷◌, length, set, Some, All, sym, ap, ◌∙◌, arith, ℤ, slice_get, below_more, length-set, get_or-set_other, get_or-set_same, w64, to_z, of_z, pos, FitsSigned, slice_index_or}
use Rattle.std.proofs.lemmas.Option.{slice_get-get_or}
use Rattle.std.proofs.lemmas.List.Elements.{All-nil, All-cons, All-get_or}
use Rattle.std.proofs.lemmas.Int.{to_z-of_z}

slice_get-set_other : (out : List ℤ) (i k : ℕ) (v : ℤ) → k ≢ i → k < length out → slice_get (set out i v) k ≡ slice_get out k
slice_get-set_other out i k v other h =
    slice_get-get_or (set out i v) k v (rw length-set h) ∙ ap Some (get_or-set_other out i k v v other) ∙ sym (slice_get-get_or out k v h)

slice_get-set_same : (out : List ℤ) (i : ℕ) (v : ℤ) → i < length out → slice_get (set out i v) i ≡ Some v
slice_get-set_same out i v h =
    slice_get-get_or (set out i v) i v (rw length-set h) ∙ ap Some (get_or-set_same out i v v h)

pub filled_more : (wanted : ℕ → ℤ) (out : List ℤ) (i : ℕ) (v : ℤ) → i < length out → ((k : ℕ) → k < i → slice_get out k ≡ Some (wanted k)) → v ≡ wanted i → (k : ℕ) → k < i + 1 → slice_get (set out i v) k ≡ Some (wanted k)
filled_more wanted out i v h before is =
    below_more (λ k. slice_get (set out i v) k ≡ Some (wanted k)) i
    (λ k below. slice_get-set_other out i k v (omega arith) (omega arith) ∙ before k below)
    (slice_get-set_same out i v h ∙ ap Some is)

pub All-four : (P : ℤ → Type 0) (a b c d : ℤ) → P a → P b → P c → P d → All P (a ∷ b ∷ c ∷ d ∷ [])
All-four P a b c d pa pb pc pd =
    All-cons P a (b ∷ c ∷ d ∷ []) pa (All-cons P b (c ∷ d ∷ []) pb (All-cons P c (d ∷ []) pc (All-cons P d [] pd (All-nil P))))

-- a number of a row comes back from its bits as it was
pub number_again : (P : ℤ → Type 0) (row : List ℤ) (i : ℕ) → All P row → i < length row → FitsSigned w64 (slice_index_or row i (pos 0)) → P (to_z w64 (of_z w64 (slice_index_or row i (pos 0))))
number_again P row i all h fits = rw (to_z-of_z w64 (slice_index_or row i (pos 0)) fits) (All-get_or P row i (pos 0) h all)
