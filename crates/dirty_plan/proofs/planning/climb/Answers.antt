use Rattle.std.proofs.Common.{◌≡◌, ℕ, ◌/◌, ◌≤◌, List, ◌++◌, map, take, drop, length, get_or, ap, ◌∙◌, arith}
use Rattle.std.specs.Prelude.{nat_eq}
use Rattle.std.specs.List.{dedup}
use Rattle.std.proofs.lemmas.Grind.{common_steps}
use Rattle.std.proofs.lemmas.List.{get_or_default}
use Rattle.std.proofs.lemmas.List.Edits.{map_over_more}
use Rattle.std.proofs.lemmas.List.Filters.{dedup_is}
use Rattle.dirty_plan.proofs.planning.climb.Goals as goal

-- where all elements were changed
changed : (f : ℕ → ℕ) (xs ys : List ℕ) (i : ℕ) → length xs ≤ i → ys ≡ map f (take i xs) ++ drop i xs → ys ≡ map f xs
changed f xs ys i h e = grind (arith, common_steps)

-- what is written to all places of a vector is what it has
written_back : (n : ℕ) (xs ys : List ℕ) → length xs ≡ n → take n (xs ++ drop (length xs) ys) ≡ xs
written_back n xs ys e = grind (arith, common_steps)

pub loop-cell-preserved : goal.loop-cell-preserved
loop-cell-preserved c =
    map_over_more (λ cell. cell / 4) c.deref_mut-cell-items.result.now c.loop-cell.cell-items c.loop-cell.cell-index (get_or c.loop-cell.cell-items c.loop-cell.cell-index 0) c.loop-cell-test.true c.loop-cell.invariant
    (get_or_default c.loop-cell.cell-items c.loop-cell.cell-index 0 (get_or c.loop-cell.cell-items c.loop-cell.cell-index 0) (omega arith))

pub returns : goal.returns
returns c =
    let all : c.loop-cell.cell-items ≡ map (λ cell. cell / 4) c.deref_mut-cell-items.result.now = changed (λ cell. cell / 4) c.deref_mut-cell-items.result.now c.loop-cell.cell-items c.loop-cell.cell-index c.loop-cell-test.false c.loop-cell.invariant in
    let written : take c.args.cells.now.len (c.loop-cell.cell-items ++ drop (length c.loop-cell.cell-items) c.args.cells.now.items) ≡ c.loop-cell.cell-items =
    written_back c.args.cells.now.len c.loop-cell.cell-items c.args.cells.now.items (c.loop-cell.auto.cell-items ∙ c.deref_mut-cell-items.ensures.len) in
    dedup_is nat_eq _ _ c.dedup.ensures.filtered ∙ ap (dedup nat_eq) (written ∙ all ∙ ap (map (λ cell. cell / 4)) c.deref_mut-cell-items.ensures.value)
