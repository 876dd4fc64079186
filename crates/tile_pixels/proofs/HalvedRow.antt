-- A row of numbers that a loop fills place by place, from the left.
use Rattle.std.proofs.Common.{◌≡◌, ◌≢◌, ℕ, ◌+◌, ◌*◌, ◌<◌, List, [], ◌∷◌, length, set, Some, All, sym, ap, ◌∙◌, arith, ℤ, slice_get, below_more, length-set, get_or-set_other, get_or-set_same, w64, to_z, of_z, pos, FitsSigned, slice_index_or}
use Rattle.std.proofs.lemmas.Option.{slice_get-get_or}
use Rattle.std.proofs.lemmas.List.Elements.{All-get_or}
use Rattle.std.proofs.lemmas.Int.{to_z-of_z}
use Rattle.parent_rule.specs.Combined.{combined, square_at}
use Rattle.parent_rule.specs.CombinedLaws.{combined-number}
use Rattle.parent_rule.specs.Depth.{IsNumber}
use Rattle.parent_rule.specs.declared.combine.Combine.{Combine}
use Rattle.tile_pixels.specs.QuadrantLaws.{same_four}
use Rattle.tile_pixels.proofs.TwoRows.{All-four}

slice_get-set_other : (out : List ℤ) (i k : ℕ) (v : ℤ) → k ≢ i → k < length out → slice_get (set out i v) k ≡ slice_get out k
slice_get-set_other out i k v other h =
    slice_get-get_or (set out i v) k v (rw length-set h) ∙ ap Some (get_or-set_other out i k v v other) ∙ sym (slice_get-get_or out k v h)

slice_get-set_same : (out : List ℤ) (i : ℕ) (v : ℤ) → i < length out → slice_get (set out i v) i ≡ Some v
slice_get-set_same out i v h =
    slice_get-get_or (set out i v) i v (rw length-set h) ∙ ap Some (get_or-set_same out i v v h)

pub filled_more : (wanted : ℕ → ℤ) (out : List ℤ) (i : ℕ) (v : ℤ) → i < length out → ((k : ℕ) → k < i → slice_get out k ≡ Some (wanted k)) → v ≡ wanted i → (k : ℕ) → k < i + 1 → slice_get (set out i v) k ≡ Some (wanted k)
filled_more wanted out i v h before is =
    below_more (λ k. slice_get (set out i v) k ≡ Some (wanted k)) i
    (λ k below. slice_get-set_other out i k v (omega arith) (omega arith) ∙ before k below)
    (slice_get-set_same out i v h ∙ ap Some is)

-- the bits of a number of a row
pub number_bits : (P : ℤ → Type 0) (row : List ℤ) (i : ℕ) → All P row → i < length row → FitsSigned w64 (slice_index_or row i (pos 0)) → P (to_z w64 (of_z w64 (slice_index_or row i (pos 0))))
number_bits P row i all h fits = rw (to_z-of_z w64 (slice_index_or row i (pos 0)) fits) (All-get_or P row i (pos 0) h all)

-- the four numbers under a place give a number
pub above-number : (way : Combine) (bits : ℕ) (blank : ℤ) (top bottom : List ℤ) (i count : ℕ) (v : ℤ) → IsNumber bits blank → All (IsNumber bits) top → All (IsNumber bits) bottom → length top ≡ 2 * count → length bottom ≡ 2 * count → i < count
    → v ≡ combined way blank (square_at top bottom i) → IsNumber bits v
above-number way bits blank top bottom i count v of all_top all_bottom long_top long_bottom below is =
    let P : ℤ → Type 0 = IsNumber bits in
    rw is (combined-number way bits blank _ of (All-four P _ _ _ _
    (All-get_or P top (2 * i) (pos 0) (omega arith) all_top) (All-get_or P bottom (2 * i) (pos 0) (omega arith) all_bottom)
    (All-get_or P top (2 * i + 1) (pos 0) (omega arith) all_top) (All-get_or P bottom (2 * i + 1) (pos 0) (omega arith) all_bottom)))

-- the mean of the bits of four numbers
pub mean_of_bits : (way : Combine) (blank v a b c d a' b' c' d' : ℤ) → v ≡ combined way blank (a ∷ b ∷ c ∷ d ∷ []) → a ≡ to_z w64 (of_z w64 a') → b ≡ to_z w64 (of_z w64 b') → c ≡ to_z w64 (of_z w64 c') → d ≡ to_z w64 (of_z w64 d')
    → FitsSigned w64 a' → FitsSigned w64 b' → FitsSigned w64 c' → FitsSigned w64 d' → v ≡ combined way blank (a' ∷ b' ∷ c' ∷ d' ∷ [])
mean_of_bits way blank v a b c d a' b' c' d' is ea eb ec ed fa fb fc fd =
    is ∙ same_four way blank a b c d a' b' c' d' (ea ∙ to_z-of_z w64 a' fa) (eb ∙ to_z-of_z w64 b' fb) (ec ∙ to_z-of_z w64 c' fc) (ed ∙ to_z-of_z w64 d' fd)
