-- A cell is looked for among the cells over the touched leaves, which ascend as these do.
use Rattle.std.proofs.Common.{◌≡◌, ℕ, ◌*◌, ◌/◌, ◌<◌, ◌≤◌, ◌==◌, inl, inr, true, false, List, length, get_or, sym, ap, ◌∙◌, arith}
use Rattle.std.specs.Prelude.{nat_lt, nat_eq}
use Rattle.std.specs.List.{list_any}
use Rattle.std.specs.List.Sorted.{IsStrictlyIncreasing, IsNonDecreasingBy, IsPartitionedBy, IsPartitionPoint}
use Rattle.std.proofs.Math.Nat.{div-mul-le_self}
use Rattle.std.proofs.lemmas.Bool.{cases_eq, cases_lt}
use Rattle.std.proofs.lemmas.Bool.Decides.{nat_tests}
use Rattle.std.proofs.lemmas.List.Elements.{All-from_get_or}
use Rattle.std.proofs.lemmas.List.Folds.{list_any_at, list_any_none}
use Rattle.std.proofs.lemmas.List.Sorted.{IsPartitionedBy-ltb}
use Rattle.std.proofs.lemmas.Map.Keys.{non_decreasing_from_sorted, sorted_from_strictly_increasing}
use Rattle.std.proofs.lemmas.Nat.{le-div}

module _ (size : ℕ) (touched : List ℕ) (some : 0 < size) (up : IsStrictlyIncreasing touched) where
  cells_rise : IsNonDecreasingBy (λ leaf. leaf / size) touched
  cells_rise i j d le lt =
      let below : get_or touched i d ≤ get_or touched j d = non_decreasing_from_sorted touched (sorted_from_strictly_increasing touched up) i j d le lt in
      let whole : get_or touched i d / size * size ≤ get_or touched i d = div-mul-le_self (get_or touched i d) size in
      le-div (get_or touched i d / size) (get_or touched j d) size some (omega arith)

  -- those over lower cells come first
  pub lower_first : (cell : ℕ) → IsPartitionedBy (λ leaf. nat_lt (leaf / size) cell) touched
  lower_first cell = IsPartitionedBy-ltb (λ leaf. leaf / size) touched cell cells_rise

  pub lies_there : (cell i leaf : ℕ) → i < length touched → leaf ≡ get_or touched i leaf → leaf / size ≡ cell → list_any (λ leaf. leaf / size == cell) touched ≡ true
  lies_there cell i leaf within is over =
      let here : get_or touched i leaf / size ≡ cell = ap (λ l. l / size) (sym is) ∙ over in
      list_any_at (λ leaf. leaf / size == cell) touched i leaf within (grind (arith, nat_tests))

  -- the first that lies over no lower cell lies over a higher one, or there is none
  pub lies_nowhere : (cell i d : ℕ) → IsPartitionPoint (λ leaf. nat_lt (leaf / size) cell ≡ true) (λ leaf. nat_lt (leaf / size) cell ≡ false) touched i
      → (i < length touched → cell < get_or touched i d / size) → list_any (λ leaf. leaf / size == cell) touched ≡ false
  lies_nowhere cell i d at higher = list_any_none (λ leaf. leaf / size == cell) touched (All-from_get_or (λ leaf. (leaf / size == cell) ≡ false) touched d (λ k within. elim (cases_lt k i) [
    | inl before ↦
        let lower : nat_lt (get_or touched k d / size) cell ≡ true = at.0 k d (omega arith) before in
        grind (arith, nat_tests)
    | inr after ↦
        let first : cell < get_or touched i d / size = higher (omega arith) in
        let rise : get_or touched i d / size ≤ get_or touched k d / size = cells_rise i k d after within in
        grind (arith, nat_tests)
  ]))

  -- so the first one tells
  pub first_tells : (cell i leaf : ℕ) → IsPartitionPoint (λ leaf. nat_lt (leaf / size) cell ≡ true) (λ leaf. nat_lt (leaf / size) cell ≡ false) touched i
      → i < length touched → leaf ≡ get_or touched i leaf → nat_eq (leaf / size) cell ≡ list_any (λ leaf. leaf / size == cell) touched
  first_tells cell i leaf at within is = elim (cases_eq (leaf / size) cell) [
    | inl over ↦
        let here : nat_eq (leaf / size) cell ≡ true = grind (arith, nat_tests) in
        here ∙ sym (lies_there cell i leaf within is over)
    | inr apart ↦
        let here : nat_eq (leaf / size) cell ≡ false = grind (arith, nat_tests) in
        let first : nat_lt (get_or touched i leaf / size) cell ≡ false = at.1 i leaf (omega arith) within in
        let over : leaf / size ≡ get_or touched i leaf / size = ap (λ l. l / size) is in
        let higher : cell < get_or touched i leaf / size = grind (arith, nat_tests) in
        here ∙ sym (lies_nowhere cell i leaf at (λ _. higher))
  ]
