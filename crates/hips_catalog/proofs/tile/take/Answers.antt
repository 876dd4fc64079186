use Rattle.std.proofs.Common.{subst, ◌<◌, ap, sym, refl, ◌∙◌, length, arith}
use Rattle.std.specs.Arc.{arc_value}
use Rattle.std.specs.Prelude.{slice_index_or}
use Rattle.std.specs.List.{remove}
use Rattle.hips_catalog.specs.Tiles.{sources, rows_at, HasNewRows}
use Rattle.hips_catalog.proofs.Shared.{remove_map, index_map}
use Rattle.hips_catalog.proofs.tile.take.Goals as goal

done : (c : goal.Joined-tile-2) → HasNewRows c.args.cell (sources c.remove-row.new.self) c.args.tiles.now c.swap.new.self
done c =
    subst (λ tiles. HasNewRows c.args.cell (sources c.remove-row.new.self) c.args.tiles.now tiles) (sym c.swap.ensures.items)
    (c.lift-tile.ensures.back (record { cell = c.lift-tile.result.cell; rows = c.remove-row.new.self }) refl)

pub returns-clause-rows : goal.returns-clause-rows
returns-clause-rows c =
    (done c).rows_are ∙ ap sources c.remove-row.ensures.items ∙ remove_map arc_value c.lift-tile.result.rows c.args.i
    ∙ ap (λ ys. remove ys c.args.i) (sym c.lift-tile.ensures.rows)

pub returns-clause-row : goal.returns-clause-row
returns-clause-row c =
    ap arc_value c.remove-row.ensures.item ∙ sym (index_map arc_value c.lift-tile.result.rows c.args.i c.remove-row.result)
    ∙ ap (λ ys. slice_index_or ys c.args.i (arc_value c.remove-row.result)) (sym c.lift-tile.ensures.rows)

pub returns-clause-others : goal.returns-clause-others
returns-clause-others c = (done c).others

pub returns-clause-listed : goal.returns-clause-listed
returns-clause-listed c = (done c).listed

pub returns-clause-cells : goal.returns-clause-cells
returns-clause-cells c = (done c).cells
