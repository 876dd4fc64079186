-- The definition of `combined` at what is left without the blank numbers.
use Rattle.std.proofs.Common.{◌≡◌, ◌<◌, List, [], ◌∷◌, length, refl, sym, ap, arith, ◌≢◌, true, false, cond, ℤ, pos, ◌+ℤ◌}
use Rattle.std.proofs.lemmas.Bool.Decides.{Decides-int_eq}
use Rattle.std.specs.Bool.{Decides}
use Rattle.std.specs.Ordering.{int_eq}
use Rattle.parent_rule.specs.Combined.{combined, combined_of, not_blank, rounded_mean, mean_beside_blank, lower_median}
use Rattle.parent_rule.specs.declared.combine.Combine.{Combine}
use Rattle.parent_rule.specs.declared.combine.Combine.TheVariants.{Mean, Median}

mean_of_some : (blank : ℤ) (vs : List ℤ) → 0 < length vs → combined_of Mean blank vs ≡ mean_beside_blank blank vs
mean_of_some blank [] some = absurd (omega arith)
mean_of_some blank (v ∷ vs) some = refl

median_of_some : (blank : ℤ) (vs : List ℤ) → 0 < length vs → combined_of Median blank vs ≡ lower_median blank vs
median_of_some blank [] some = absurd (omega arith)
median_of_some blank (v ∷ vs) some = refl

pub combined_none : (way : Combine) (blank : ℤ) (four kept : List ℤ) → kept ≡ not_blank blank four → length kept ≡ 0 → combined way blank four ≡ blank
unfolding combined
combined_none way blank four [] is none = ap (combined_of way blank) (sym is)
combined_none way blank four (v ∷ vs) is none = absurd (omega arith)

pub combined_mean : (way : Combine) (blank : ℤ) (four kept : List ℤ) → way ≡ Mean → kept ≡ not_blank blank four → 0 < length kept → combined way blank four ≡ mean_beside_blank blank kept
unfolding combined
combined_mean way blank four kept way-is is some = rw (way-is, ← is) (mean_of_some blank kept some)

pub combined_median : (way : Combine) (blank : ℤ) (four kept : List ℤ) → way ≡ Median → kept ≡ not_blank blank four → 0 < length kept → combined way blank four ≡ lower_median blank kept
unfolding combined
combined_median way blank four kept way-is is some = rw (way-is, ← is) (median_of_some blank kept some)

pub mean_at_blank : (blank : ℤ) (vs : List ℤ) → rounded_mean vs ≡ blank → mean_beside_blank blank vs ≡ blank +ℤ pos 1
mean_at_blank blank vs is = ap (λ b. cond b (blank +ℤ pos 1) (rounded_mean vs)) ((Decides-int_eq (rounded_mean vs) blank).1 is)

pub mean_elsewhere : (blank : ℤ) (vs : List ℤ) → rounded_mean vs ≢ blank → mean_beside_blank blank vs ≡ rounded_mean vs
mean_elsewhere blank vs other = elim (int_eq (rounded_mean vs) blank) as (λ b. Decides b (rounded_mean vs ≡ blank) → cond b (blank +ℤ pos 1) (rounded_mean vs) ≡ rounded_mean vs) [
  | true ↦ λ same. absurd (other (same.0 refl))
  | false ↦ λ _. refl
] (Decides-int_eq (rounded_mean vs) blank)
