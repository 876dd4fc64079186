use Rattle.std.proofs.Common.{◌≡◌, ℕ, List, take, ap, subst, sym, ◌∙◌}
use Rattle.std.specs.Prelude.{slice_get}
use Rattle.std.specs.Arc.{arc_value}
use Rattle.balanced_list.specs.Search.{leading, HoldsAtFirst}
use Rattle.hips_catalog.specs.Rows.{Source, is_better, placed}
use Rattle.hips_catalog.proofs.Listed.{gap_rows}
use Rattle.hips_catalog.proofs.Full.{take_one}
use Rattle.hips_catalog.proofs.tile.offer.Goals as goal

-- the row goes where the search ends
place_at : (x y : Source) (ss rows : List Source) (i : ℕ) → y ≡ x → rows ≡ ss → (HoldsAtFirst (λ s. is_better s y) ss → i ≡ leading (λ s. is_better s y) ss) →
    HoldsAtFirst (λ s. is_better s x) rows → i ≡ leading (λ s. is_better s x) rows
place_at x y ss rows i e r h o =
    let g : HoldsAtFirst (λ s. is_better s x) ss → i ≡ leading (λ s. is_better s x) ss = subst (λ z. HoldsAtFirst (λ s. is_better s z) ss → i ≡ leading (λ s. is_better s z) ss) e h in
    subst (λ ys. HoldsAtFirst (λ s. is_better s x) ys → i ≡ leading (λ s. is_better s x) ys) (sym r) g o

pub offer_to-requires-clause-place : goal.offer_to-requires-clause-place
offer_to-requires-clause-place c =
    place_at (arc_value c.args.row) c.row.result.now _ _ c.place_of-i.result (c.row.ensures ∙ ap arc_value c.item.ensures) c.in-Ok.ensures.rows c.place_of-i.ensures.place c.requires.in_order

pub returns-in-Some-clause-rows : goal.returns-in-Some-clause-rows
returns-in-Some-clause-rows c =
    c.add.ensures.rows ∙ sym ((take_one (arc_value c.args.row) c.args.room c.requires.some).0)
    ∙ ap (λ ys. take c.args.room (placed (arc_value c.args.row) ys)) (sym (gap_rows c.args.tiles.now c.in-Err.at c.args.cell c.requires.listed c.in-Err.ensures.gap))

pub returns-in-Some-clause-out : goal.returns-in-Some-clause-out
returns-in-Some-clause-out c =
    sym ((take_one (arc_value c.args.row) c.args.room c.requires.some).1)
    ∙ ap (λ ys. slice_get (placed (arc_value c.args.row) ys) c.args.room) (sym (gap_rows c.args.tiles.now c.in-Err.at c.args.cell c.requires.listed c.in-Err.ensures.gap))
