use Rattle.std.proofs.Common.{ap, sym, subst, refl, ◌∙◌}
use Rattle.std.specs.Arc.{arc_value}
use Rattle.std.specs.List.{insert}
use Rattle.hips_catalog.specs.Tiles.{sources, HasNewRows}
use Rattle.hips_catalog.proofs.Shared.{insert_map}
use Rattle.hips_catalog.proofs.tile.put.Goals as goal

done : (c : goal.Joined-tile-2) → HasNewRows c.args.cell (sources c.insert.new.self) c.args.tiles.now c.swap.new.self
done c =
    subst (λ tiles. HasNewRows c.args.cell (sources c.insert.new.self) c.args.tiles.now tiles) (sym c.swap.ensures.items)
    (c.lift-tile.ensures.back (record { cell = c.lift-tile.result.cell; rows = c.insert.new.self }) refl)

pub returns-clause-rows : goal.returns-clause-rows
returns-clause-rows c =
    (done c).rows_are ∙ ap sources c.insert.ensures ∙ insert_map arc_value c.lift-tile.result.rows c.args.i c.args.row
    ∙ ap (λ ys. insert ys c.args.i (arc_value c.args.row)) (sym c.lift-tile.ensures.rows)

pub returns-clause-others : goal.returns-clause-others
returns-clause-others c = (done c).others

pub returns-clause-listed : goal.returns-clause-listed
returns-clause-listed c = (done c).listed

pub returns-clause-cells : goal.returns-clause-cells
returns-clause-cells c = (done c).cells
