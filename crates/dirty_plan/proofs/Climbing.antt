-- From the touched leaves up: the cells kept are the dirty cells of each order.
use Rattle.std.proofs.Common.{◌≡◌, ℕ, ◌+◌, ◌-◌, ◌*◌, ◌/◌, ◌^◌, ◌<◌, ◌≤◌, ◌||◌, ◌&&◌, Bool, List, [], ◌∷◌, map, refl, sym, ap, ◌∙◌, arith, div-one, subst, zero-add}
use Rattle.std.proofs.Math.Nat.{div-div-eq-div-mul, div-lt_iff_lt-mul, div-mul-le_self}
use Rattle.std.proofs.lemmas.Nat.{pow-add, le-div}
use Rattle.healpix_nested.specs.CellLaws.{four_pow_pos}
use Rattle.std.specs.Prelude.{nat_eq, nat_le}
use Rattle.std.specs.List.{list_any, dedup}
use Rattle.std.proofs.lemmas.Bool.Decides.{nat_tests}
use Rattle.healpix_nested.specs.Cells.{cell_count, lies_under}
use Rattle.dirty_plan.specs.Dirty.{is_dirty, dirty_cells}
use Rattle.dirty_plan.proofs.Ascending.{Ascends, Below, Rises, rises_sooner, rises_from_ascends, ascends_dedup, below_dedup, any_dedup, rises_map, below_map, dedup_map_dedup, dedup_ascending}
use Rattle.dirty_plan.proofs.Select.{filter_same, select}

pub any_map : (p : ℕ → Bool) (f : ℕ → ℕ) (xs : List ℕ) → list_any p (map f xs) ≡ list_any (λ x. p (f x)) xs
any_map p f [] = refl
any_map p f (x ∷ xs) = ap (λ b. p (f x) || b) (any_map p f xs)

pub any_same : (p q : ℕ → Bool) → ((x : ℕ) → p x ≡ q x) → (xs : List ℕ) → list_any p xs ≡ list_any q xs
any_same p q same [] = refl
any_same p q same (x ∷ xs) = rw (same x, any_same p q same xs) refl

-- the cells of an order that the touched leaves lie under, each once
abbrev pub climbed : ℕ → List ℕ → List ℕ
climbed depth touched = dedup nat_eq (map (λ leaf. leaf / 4 ^ depth) touched)

steps_up : (leaf depth : ℕ) → leaf / 4 ^ depth / 4 ≡ leaf / 4 ^ (depth + 1)
steps_up leaf depth = div-div-eq-div-mul leaf (4 ^ depth) 4 ∙ ap (λ n. leaf / n) (sym (pow-add 4 depth 1))

-- a quotient keeps the order
div_mono : (k : ℕ) → 0 < k → (x y : ℕ) → x ≤ y → x / k ≤ y / k
div_mono k some x y h = let whole : x / k * k ≤ x = div-mul-le_self x k in le-div (x / k) y k some (omega arith)

-- one order further up
pub climbed_more : (depth : ℕ) (touched : List ℕ) → dedup nat_eq (map (λ cell. cell / 4) (climbed depth touched)) ≡ climbed (depth + 1) touched
climbed_more depth touched =
    dedup_map_dedup (λ cell. cell / 4) (map (λ leaf. leaf / 4 ^ depth) touched) ∙ ap (dedup nat_eq) (once_more touched)
  where
    once_more : (leaves : List ℕ) → map (λ cell. cell / 4) (map (λ leaf. leaf / 4 ^ depth) leaves) ≡ map (λ leaf. leaf / 4 ^ (depth + 1)) leaves
    once_more [] = refl
    once_more (leaf ∷ leaves) =
        let here : leaf / 4 ^ depth / 4 ≡ leaf / 4 ^ (depth + 1) = steps_up leaf depth in
        let rest : map (λ cell. cell / 4) (map (λ leaf. leaf / 4 ^ depth) leaves) ≡ map (λ leaf. leaf / 4 ^ (depth + 1)) leaves = once_more leaves in
        cc

-- where no order was climbed, these are the leaves themselves
pub climbed_none : (touched : List ℕ) → Ascends 0 touched → climbed 0 touched ≡ touched
climbed_none touched up = ap (dedup nat_eq) (same touched) ∙ dedup_ascending 0 touched up
  where
    same : (leaves : List ℕ) → map (λ leaf. leaf / 4 ^ 0) leaves ≡ leaves
    same [] = refl
    same (leaf ∷ leaves) = let here : leaf / 4 ^ 0 ≡ leaf = div-one leaf in let rest : map (λ leaf. leaf / 4 ^ 0) leaves ≡ leaves = same leaves in cc

-- a leaf of the sphere lies under a cell of the sphere
pub cell_in_range : (top order leaf : ℕ) → order ≤ top → leaf < cell_count top → leaf / 4 ^ (top - order) < cell_count order
cell_in_range top order leaf h in_range =
    let split : 4 ^ top ≡ 4 ^ order * 4 ^ (top - order) = ap (λ k. 4 ^ k) (parts order top h) ∙ pow-add 4 order (top - order) in
    (div-lt_iff_lt-mul {k = 4 ^ (top - order)} {x = leaf} {y = 12 * 4 ^ order} (four_pow_pos (top - order))).1 (below leaf (4 ^ top) (4 ^ order) (4 ^ (top - order)) split in_range)
  where
    parts : (order top : ℕ) → order ≤ top → top ≡ order + (top - order)
    parts order top h = omega arith

    below : (leaf whole high low : ℕ) → whole ≡ high * low → leaf < 12 * whole → leaf < 12 * high * low
    below leaf whole high low e h = grind arith

-- the cells climbed to are the dirty cells
pub climbed_dirty : (top order : ℕ) (touched : List ℕ) → order ≤ top → Ascends 0 touched → Below (cell_count top) touched → dirty_cells top touched order ≡ climbed (top - order) touched
unfolding dirty_cells
climbed_dirty top order touched h up within =
    let rises : Rises 0 (map (λ leaf. leaf / 4 ^ (top - order)) touched) =
    rises_sooner 0 (0 / 4 ^ (top - order)) (map (λ leaf. leaf / 4 ^ (top - order)) touched) (omega arith)
    (rises_map (λ leaf. leaf / 4 ^ (top - order)) (div_mono (4 ^ (top - order)) (four_pow_pos (top - order))) 0 touched (rises_from_ascends 0 touched up)) in
    let cells : Below (cell_count order) (map (λ leaf. leaf / 4 ^ (top - order)) touched) =
    below_map (λ leaf. leaf / 4 ^ (top - order)) (cell_count top) (cell_count order) (λ x lt. cell_in_range top order x h lt) touched within in
    let tests : (c : ℕ) → 0 ≤ c → is_dirty top touched order c ≡ list_any (λ x. nat_eq x c) (climbed (top - order) touched) =
    λ c _. sym (any_dedup (λ x. nat_eq x c) (map (λ leaf. leaf / 4 ^ (top - order)) touched)
    ∙ any_map (λ x. nat_eq x c) (λ leaf. leaf / 4 ^ (top - order)) touched
    ∙ any_same (λ leaf. nat_eq (leaf / 4 ^ (top - order)) c) (λ leaf. lies_under top leaf order c) (λ leaf. under top order h (leaf / 4 ^ (top - order)) c) touched) in
    filter_same (is_dirty top touched order) (λ c. list_any (λ x. nat_eq x c) (climbed (top - order) touched)) 0 (cell_count order) tests
    ∙ select 0 (cell_count order) (climbed (top - order) touched)
    (ascends_dedup 0 (map (λ leaf. leaf / 4 ^ (top - order)) touched) rises)
    (subst (λ m. Below m (climbed (top - order) touched)) (sym (zero-add (cell_count order))) (below_dedup (cell_count order) (map (λ leaf. leaf / 4 ^ (top - order)) touched) cells))
  where
    under : (top order : ℕ) → order ≤ top → (x c : ℕ) → nat_eq x c ≡ (nat_le order top && nat_eq x c)
    under top order h x c = grind (arith, nat_tests)
