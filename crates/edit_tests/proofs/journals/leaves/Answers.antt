use Rattle.std.proofs.Common.{◌<◌, sym, subst, arith}
use Rattle.std.specs.Arc.{arc_value}
use Rattle.std.specs.Ordering.{nat_cmp}
use Rattle.std.proofs.lemmas.Map.Views.{All-values-insert_entry, All-keys-insert_entry}
use Rattle.healpix_nested.specs.Cells.{cell_count}
use Rattle.leaf_store.specs.Store.{IsAscending}
use Rattle.edit_journal.specs.Leaves.{FitsLeaves, FitsTile}
use Rattle.edit_tests.proofs.journals.leaves.Goals as goal

pub loop-leaf-preserved : goal.loop-leaf-preserved
loop-leaf-preserved c =
    let here : c.loop-leaf.leaf < cell_count c.args.shape.now.top = omega (arith, c.requires.cells) in
    let fits : FitsTile c.args.shape.now (arc_value c.in_ok-clone.field-0) = subst (FitsTile c.args.shape.now) (sym c.in_ok-clone.ensures.cases) c.requires.tile in
    subst (FitsLeaves c.args.shape.now) (sym c.in_ok-put.ensures.put) (record {
      ascending = subst IsAscending c.in_ok-put.ensures.put c.in_ok-put.ensures.ascending;
      cells = All-keys-insert_entry nat_cmp _ _ (λ leaf. leaf < cell_count c.args.shape.now.top) c.loop-leaf.leaves c.loop-leaf.invariant.cells here;
      tiles = All-values-insert_entry nat_cmp _ _ (FitsTile c.args.shape.now) c.loop-leaf.leaves c.loop-leaf.invariant.tiles fits;
    })
