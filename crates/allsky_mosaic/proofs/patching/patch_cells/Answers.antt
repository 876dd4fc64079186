use Rattle.std.proofs.Common.{◌≢◌, ℕ, ◌+◌, ◌<◌, ◌≤◌, List, length, get_or, sym, ap, subst, ◌∙◌, inl, inr, arith}
use Rattle.std.proofs.lemmas.Bool.{cases_eq}
use Rattle.std.proofs.lemmas.List.{get_or_default}
use Rattle.allsky_mosaic.specs.Cells.{ShowsPlace}
use Rattle.allsky_mosaic.proofs.patching.patch_cells.Goals as goal

-- a place that is neither this cell nor a later one
neither : (cells : List ℕ) (i place : ℕ) → place ≢ get_or cells i 0 → ((k : ℕ) → i + 1 ≤ k → k < length cells → get_or cells k 0 ≢ place)
    → (k : ℕ) → i ≤ k → k < length cells → get_or cells k 0 ≢ place
neither cells i place other rest k from within =
    elim (cases_eq k i) [
      | inl here ↦ λ is. other (sym is ∙ ap (λ (j : ℕ). get_or cells j 0) here)
      | inr later ↦ rest k (omega arith) within
    ]

pub loop-cell-init : goal.loop-cell-init
loop-cell-init c shape leaves survey show before place place_in rest =
    before place place_in (λ there. rest there.0 (omega arith) there.1 (get_or_default c.args.touched.now there.0 0 place there.1 ∙ there.2))

pub loop-cell-preserved : goal.loop-cell-preserved
loop-cell-preserved c shape leaves survey show before place place_in rest =
    let i : ℕ = c.loop-cell.cell-index in
    elim (cases_eq place (get_or c.args.touched.now i 0)) [
      | inl here ↦
          let P : ℕ → Type 0 = λ k. ShowsPlace c.args.form.now.depth c.args.form.now.n shape leaves k c.patch_cell.new.raw in
          subst P (sym here) (c.in_ok-patch_cell.ensures.shown shape leaves survey show)
      | inr other ↦ λ t column t_in column_in.
          c.in_ok-patch_cell.ensures.kept place t column place_in other t_in column_in
          ∙ c.loop-cell.invariant shape leaves survey show before place place_in (neither c.args.touched.now i place other rest) t column t_in column_in
    ]

pub returns : goal.returns
returns c shape leaves survey show before place place_in =
    c.loop-cell.invariant shape leaves survey show before place place_in (λ k from within is. absurd (omega arith))
