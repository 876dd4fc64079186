use Rattle.std.proofs.Common.{◌≡◌, ℕ, List, [], ◌∷◌, ap, ap₂, subst}
use Rattle.std.specs.Prelude.{option_copied}
use Rattle.healpix_nested.specs.Cells.{NestedCell}
use Rattle.hips_catalog.specs.Tiles.{IsBestTile, child_cell}
use Rattle.hips_catalog.proofs.tile.best_tile.Goals as goal

a_child : (c cell : NestedCell) (i : ℕ) → c.order ≡ (child_cell cell i).order → c.npix ≡ (child_cell cell i).npix → c ≡ child_cell cell i
a_child c cell i e f = ap₂ (λ k q. let d : NestedCell = record { order = k; npix = q } in d) e f

pub returns : goal.returns
returns c =
    let b0 = c.better_of-best.ensures [] (record { cell = record { is = tt }; rows = tt }) in
    let b1 = c.better_of-best-2.ensures _ b0 in
    let b2 = c.better_of-best-3.ensures _ b1 in
    let b3 = c.better_of.ensures _ b2 in
    let l0 = ap (λ (d : NestedCell). d ∷ []) (a_child c.child.result c.args.cell 0 c.child.ensures.order c.child.ensures.npix) in
    let l1 = ap₂ (λ (d : NestedCell) (ds : List NestedCell). d ∷ ds) (a_child c.child-2.result c.args.cell 1 c.child-2.ensures.order c.child-2.ensures.npix) l0 in
    let l2 = ap₂ (λ (d : NestedCell) (ds : List NestedCell). d ∷ ds) (a_child c.child-3.result c.args.cell 2 c.child-3.ensures.order c.child-3.ensures.npix) l1 in
    let l3 = ap₂ (λ (d : NestedCell) (ds : List NestedCell). d ∷ ds) (a_child c.child-4.result c.args.cell 3 c.child-4.ensures.order c.child-4.ensures.npix) l2 in
    subst (λ (cs : List NestedCell). IsBestTile c.args.tiles.now (option_copied c.better_of.result) cs) l3 b3
