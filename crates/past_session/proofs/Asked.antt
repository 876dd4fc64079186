-- What a read leaves, and what it costs, by what a cache of past states gives.
use Rattle.std.proofs.Common.{◌≡◌, ℕ, zero, suc, ◌+◌, ◌-◌, ◌≤◌, ◌<◌, true, false, cond, not, nat_eq, nat_lt, List, [], ◌∷◌, ◌++◌, map, length, take, drop, filter, fold, max, get_or, slice_get, Some, refl, sym, ap, ◌∙◌, subst, arith}
use Rattle.std.specs.Prelude.{All, Contains, ◌&&◌, ◌||◌}
use Rattle.std.specs.List.{list_any}
use Rattle.std.proofs.lemmas.Bool.Decides.{nat_tests}
use Rattle.std.proofs.lemmas.List.{map-append}
use Rattle.std.proofs.lemmas.List.Elements.{All-contains_itself, Contains-append_right}
use Rattle.survey_conf.specs.Description.{Description}
use Rattle.dirty_plan.specs.Laws.{MoreTouchedIsMoreWork}
use Rattle.edit_journal.specs.Edit.{LeafEdit, leaf_of}
use Rattle.edit_journal.specs.Leaves.{LeafTiles}
use Rattle.edit_journal.specs.Batches.{edits_of, ends}
use Rattle.generation.specs.Steps.{touched}
use Rattle.past_frame.specs.Record.{read}
use Rattle.past_reads.specs.Costs.{held_after, greater, base, work_between, work_from, past_work}
use Rattle.past_reads.specs.AnswerLaws.{end_true, end_false}
use Rattle.past_session.specs.Answers.{PastState, state_after}
use Rattle.past_session.specs.Costs.{is_last, record_cost}

-- ---- what it leaves

pub first_held : (room k : ℕ) (held : List ℕ) → 1 ≤ room → slice_get (held_after room k held) 0 ≡ Some k
first_held zero k held some = absurd (omega (arith, some))
first_held (suc room) k held some = refl

module _ (d : Description) (opening : LeafTiles) (state : PastState) (k : ℕ) (path : List ℕ) where
  pub found_state : Contains (ends state.batches) k → state_after d opening state (read k path) ≡ record { batches = state.batches; last = Some k }
  found_state there = rw (end_true state.batches k there) refl

  pub same_state : (Contains (ends state.batches) k → ⊥) → state_after d opening state (read k path) ≡ record { batches = state.batches; last = state.last }
  same_state never = rw (end_false state.batches k never) refl

-- ---- the cost

take_nil : (n : ℕ) → take {A = LeafEdit} n [] ≡ []
take_nil zero = refl
take_nil (suc n) = refl

take_split : (j n : ℕ) (xs : List LeafEdit) → take (j + n) xs ≡ take j xs ++ take n (drop j xs)
take_split zero n xs = let same : 0 + n ≡ n = omega arith in rw same refl
take_split (suc j) n [] = let next : suc j + n ≡ suc (j + n) = omega arith in rw next (sym (take_nil n))
take_split (suc j) n (x ∷ xs) = let next : suc j + n ≡ suc (j + n) = omega arith in rw next (ap (λ l. x ∷ l) (take_split j n xs))

-- later edits touch no leaf that all of them don't
touched_part : (edits : List LeafEdit) (j k : ℕ) → j ≤ k → All (Contains (touched edits 0 k)) (touched edits j k)
touched_part edits j k before =
    let none : k - 0 ≡ k = omega arith in
    let count : k ≡ j + (k - j) = omega (arith, before) in
    let parts : touched edits 0 k ≡ map leaf_of (take j edits) ++ touched edits j k =
    ap (λ n. map leaf_of (take n edits)) (none ∙ count) ∙ ap (map leaf_of) (take_split j (k - j) edits) ∙ map-append leaf_of (take j edits) (take (k - j) (drop j edits)) in
    λ i x within. subst (λ all. Contains all (get_or (touched edits j k) i x)) (sym parts) (Contains-append_right (map leaf_of (take j edits)) (touched edits j k) (get_or (touched edits j k) i x) (All-contains_itself (touched edits j k) i x within))

no_touched : (edits : List LeafEdit) (j k : ℕ) → k < j → All (Contains (touched edits 0 k)) (touched edits j k)
no_touched edits j k beyond =
    let none : k - j ≡ 0 = omega (arith, beyond) in
    let nothing : touched edits j k ≡ [] = ap (λ n. map leaf_of (take n (drop j edits))) none in
    subst (All (Contains (touched edits 0 k))) (sym nothing) (λ i x within. absurd (omega (arith, within)))

module _ (law : MoreTouchedIsMoreWork) (d : Description) (opening : LeafTiles) (edits : List LeafEdit) (k : ℕ) where
  less_between : (j : ℕ) → work_between d edits j k ≤ work_between d edits 0 k
  less_between j =
      elim (nat_lt k j) as (λ b. nat_lt k j ≡ b → work_between d edits j k ≤ work_between d edits 0 k) [
        | true ↦ λ is. law d.shape.top d.shape.low (touched edits j k) (touched edits 0 k) (no_touched edits j k (grind (arith, nat_tests)))
        | false ↦ λ is. law d.shape.top d.shape.low (touched edits j k) (touched edits 0 k) (touched_part edits j k (grind (arith, nat_tests)))
      ] refl

  less_from : (j : ℕ) (held : List ℕ) → work_from d opening edits k (fold greater (Some j) held) ≤ work_between d edits 0 k
  less_from j [] = less_between j
  less_from j (i ∷ held) = less_from (max j i) held

  -- at most as much as from the generation of the opening leaves
  less_work : (held : List ℕ) → past_work d opening true edits held k ≤ work_between d edits 0 k
  less_work held =
      elim (list_any (nat_eq k) held) as (λ b. cond b 0 (work_from d opening edits k (base true k held)) ≤ work_between d edits 0 k) [
        | true ↦ omega arith
        | false ↦ less_from 0 (filter (λ j. nat_lt j k) held)
      ]

  -- nothing where the generation was used last
  cost_by : (held : List ℕ) → past_work d opening true edits held k ≤ cond (not (is_last (slice_get held 0) k)) (work_between d edits 0 k) 0
  cost_by [] = less_work []
  cost_by (last ∷ held) =
      elim (nat_eq last k) as (λ b. nat_eq last k ≡ b → past_work d opening true edits (last ∷ held) k ≤ cond (not b) (work_between d edits 0 k) 0) [
        | true ↦ λ is.
            let there : nat_eq k last ≡ true = grind (arith, nat_tests) in
            let free : past_work d opening true edits (last ∷ held) k ≡ 0 = ap (λ b. cond (b || list_any (nat_eq k) held) 0 (work_from d opening edits k (base true k (last ∷ held)))) there in
            omega (arith, free)
        | false ↦ λ is. less_work (last ∷ held)
      ] refl

pub read_cost : MoreTouchedIsMoreWork → (d : Description) (opening : LeafTiles) (state : PastState) (held : List ℕ) (k : ℕ) (path : List ℕ) → state.last ≡ slice_get held 0 → Contains (ends state.batches) k
    → past_work d opening true (edits_of state.batches) held k ≤ record_cost d state (read k path)
read_cost law d opening state held k path last there =
    let by : record_cost d state (read k path) ≡ cond (not (is_last (slice_get held 0) k)) (work_between d (edits_of state.batches) 0 k) 0 =
    ap (λ b. cond (b && not (is_last state.last k)) (work_between d (edits_of state.batches) 0 k) 0) (end_true state.batches k there)
    ∙ ap (λ l. cond (not (is_last l k)) (work_between d (edits_of state.batches) 0 k) 0) last in
    omega (arith, by, cost_by law d opening (edits_of state.batches) k held)
