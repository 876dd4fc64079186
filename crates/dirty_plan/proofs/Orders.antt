-- What was planned down to an order, and to the one below it.
use Rattle.std.proofs.Common.{◌≡◌, ℕ, zero, suc, ◌+◌, ◌-◌, ◌^◌, ◌<◌, ◌≤◌, List, [], ◌∷◌, ◌++◌, map, length, sym, ap, ◌∙◌, subst, arith}
use Rattle.std.specs.Prelude.{sum_by, All, Result, Ok, Err, OnErr}
use Rattle.std.specs.List.{range_with_len}
use Rattle.std.specs.List.Sorted.{IsStrictlyIncreasing}
use Rattle.std.proofs.lemmas.List.{map-append}
use Rattle.std.proofs.lemmas.List.Sums.{sum_by_push}
use Rattle.std.proofs.lemmas.List.FromFn.{map-range_with_len_more}
use Rattle.parent_rule.specs.Permit.{PermittedCell}
use Rattle.healpix_nested.specs.Cells.{cell_count}
use Rattle.dirty_plan.specs.Dirty.{dirty_cells, orders_down, permits_of, dirty, work, steps_after}
use Rattle.dirty_plan.specs.Climb.{parents}
use Rattle.dirty_plan.proofs.Ascending.{Ascends, Below, ascends_from_increasing, below_from_all}
use Rattle.dirty_plan.proofs.Climbing.{climbed, climbed_more, climbed_none, climbed_dirty}

orders_down_more : (top order : ℕ) → order < top → orders_down top order ≡ orders_down top (order + 1) ++ order ∷ []
orders_down_more top order h =
    let count : top - order ≡ top - (order + 1) + 1 = omega arith in
    let last : top - 1 - (top - (order + 1)) ≡ order = omega arith in
    ap (λ n. map (λ i. top - 1 - i) (range_with_len 0 n)) count
    ∙ map-range_with_len_more (λ i. top - 1 - i) 0 (top - (order + 1)) (top - (order + 1)) (omega arith)
    ∙ ap (λ last. orders_down top (order + 1) ++ last ∷ []) last

-- one order more
pub dirty_more : (top order : ℕ) (touched : List ℕ) → order < top → dirty top order touched ≡ dirty top (order + 1) touched ++ (order, permits_of order (dirty_cells top touched order)) ∷ []
unfolding dirty
dirty_more top order touched h =
    ap (map (λ k. (k, permits_of k (dirty_cells top touched k)))) (orders_down_more top order h)
    ∙ map-append (λ k. (k, permits_of k (dirty_cells top touched k))) (orders_down top (order + 1)) (order ∷ [])

pub work_more : (top order : ℕ) (touched : List ℕ) → order < top → work top order touched ≡ work top (order + 1) touched + length (dirty_cells top touched order)
unfolding work
work_more top order touched h =
    ap (sum_by (λ k. length (dirty_cells top touched k))) (orders_down_more top order h)
    ∙ sum_by_push (λ k. length (dirty_cells top touched k)) (orders_down top (order + 1)) order

-- no order
none_down : (top : ℕ) → orders_down top top ≡ []
none_down top = let none : top - top ≡ 0 = omega arith in ap (λ n. map (λ i. top - 1 - i) (range_with_len 0 n)) none

pub dirty_none : (top : ℕ) (touched : List ℕ) → dirty top top touched ≡ []
unfolding dirty
dirty_none top touched = ap (map (λ k. (k, permits_of k (dirty_cells top touched k)))) (none_down top)

pub work_none : (top : ℕ) (touched : List ℕ) → work top top touched ≡ 0
unfolding work
work_none top touched = ap (sum_by (λ k. length (dirty_cells top touched k))) (none_down top)

-- fewer orders are no more work
work_further : (top low depth : ℕ) (touched : List ℕ) → low + depth ≤ top → work top (low + depth) touched ≤ work top low touched
work_further top low zero touched h = let same : low + 0 ≡ low = omega arith in subst (λ k. work top k touched ≤ work top low touched) (sym same) (omega arith)
work_further top low (suc depth) touched h =
    let rest : work top (low + depth) touched ≤ work top low touched = work_further top low depth touched (omega arith) in
    let more : work top (low + depth) touched ≡ work top (low + depth + 1) touched + length (dirty_cells top touched (low + depth)) = work_more top (low + depth) touched (omega arith) in
    let same : low + depth + 1 ≡ low + suc depth = omega arith in
    subst (λ k. work top k touched ≤ work top low touched) same (omega arith)

pub work_higher : (top low order : ℕ) (touched : List ℕ) → low ≤ order → order ≤ top → work top order touched ≤ work top low touched
work_higher top low order touched h within =
    let same : low + (order - low) ≡ order = omega arith in
    subst (λ k. work top k touched ≤ work top low touched) same (work_further top low (order - low) touched (omega arith))

-- the leaves are the dirty cells of their own order
pub dirty_leaves : (top : ℕ) (touched : List ℕ) → IsStrictlyIncreasing touched → All (λ leaf. leaf < cell_count top) touched → dirty_cells top touched top ≡ touched
dirty_leaves top touched up leaves =
    let ascends : Ascends 0 touched = ascends_from_increasing 0 touched (λ _. omega arith) up in
    let none : top - top ≡ 0 = omega arith in
    climbed_dirty top top touched (omega arith) ascends (below_from_all (cell_count top) touched leaves)
    ∙ ap (λ n. climbed n touched) none ∙ climbed_none touched ascends

-- the parents of an order's dirty cells are those of the order above
pub dirty_parents : (top order : ℕ) (touched : List ℕ) → order < top → IsStrictlyIncreasing touched → All (λ leaf. leaf < cell_count top) touched → parents (dirty_cells top touched (order + 1)) ≡ dirty_cells top touched order
dirty_parents top order touched h up leaves =
    let ascends : Ascends 0 touched = ascends_from_increasing 0 touched (λ _. omega arith) up in
    let below : Below (cell_count top) touched = below_from_all (cell_count top) touched leaves in
    let depth : top - (order + 1) + 1 ≡ top - order = omega arith in
    ap parents (climbed_dirty top (order + 1) touched (omega arith) ascends below)
    ∙ climbed_more (top - (order + 1)) touched
    ∙ ap (λ n. climbed n touched) depth
    ∙ sym (climbed_dirty top order touched (omega arith) ascends below)

-- ---- a counter

pub steps_none : (count : ℕ) → count < 2 ^ 64 → steps_after count 0 ≡ count
steps_none count h = omega arith

pub steps_twice : (count first second : ℕ) → steps_after (steps_after count first) second ≡ steps_after count (first + second)
steps_twice count first second = omega arith

pub steps_mono : (count few many : ℕ) → few ≤ many → steps_after count few ≤ steps_after count many
steps_mono count few many h = omega arith

pub steps_rise : (count steps : ℕ) → count < 2 ^ 64 → count ≤ steps_after count steps
steps_rise count steps h = omega arith

-- ---- a step of the climb

module _ (top order : ℕ) (touched : List ℕ) (some : 0 < order) (within : order ≤ top) (up : IsStrictlyIncreasing touched) (leaves : All (λ leaf. leaf < cell_count top) touched) where
  above : order - 1 + 1 ≡ order
  above = omega arith

  pub next_cells : (cells cells' : List ℕ) → cells ≡ dirty_cells top touched order → cells' ≡ parents cells → cells' ≡ dirty_cells top touched (order - 1)
  next_cells cells cells' is is' =
      is' ∙ ap parents is ∙ ap (λ k. parents (dirty_cells top touched k)) (sym above) ∙ dirty_parents top (order - 1) touched (omega arith) up leaves

  pub next_list : (cells : List ℕ) (list list' : List (ℕ × List PermittedCell)) → cells ≡ dirty_cells top touched (order - 1) → list ≡ dirty top order touched →
      list' ≡ list ++ (order - 1, permits_of (order - 1) cells) ∷ [] → list' ≡ dirty top (order - 1) touched
  next_list cells list list' is is_list pushed =
      let before : list ≡ dirty top (order - 1 + 1) touched = is_list ∙ ap (λ k. dirty top k touched) (sym above) in
      let more : dirty top (order - 1) touched ≡ dirty top (order - 1 + 1) touched ++ (order - 1, permits_of (order - 1) (dirty_cells top touched (order - 1))) ∷ [] = dirty_more top (order - 1) touched (omega arith) in
      pushed ∙ ap (λ done. done ++ (order - 1, permits_of (order - 1) cells) ∷ []) before
      ∙ ap (λ found. dirty top (order - 1 + 1) touched ++ (order - 1, permits_of (order - 1) found) ∷ []) is ∙ sym more

  pub next_steps : (cells : List ℕ) (count steps steps' : ℕ) → cells ≡ dirty_cells top touched (order - 1) → steps ≡ steps_after count (work top order touched) →
      steps' ≡ steps_after steps (length cells) → steps' ≡ steps_after count (work top (order - 1) touched)
  next_steps cells count steps steps' is is_steps counted =
      let before : work top order touched ≡ work top (order - 1 + 1) touched = ap (λ k. work top k touched) (sym above) in
      let more : work top (order - 1) touched ≡ work top (order - 1 + 1) touched + length (dirty_cells top touched (order - 1)) = work_more top (order - 1) touched (omega arith) in
      let long : length cells ≡ length (dirty_cells top touched (order - 1)) = ap length is in
      omega arith

-- what holds anyway holds on an error
pub on_err_any : {T E P : Type 0} (r : Result T E) → P → OnErr r P
on_err_any (Ok x) p = tt
on_err_any (Err e) p = p
