use Rattle.hips_catalog.proofs.Listed.{gap_rows}
use Rattle.hips_catalog.proofs.tile.rows.Goals as goal

pub returns-in-Err : goal.returns-in-Err
returns-in-Err c = gap_rows c.args.tiles.now c.in-Err.field-0 c.args.cell c.requires c.in-Err.ensures.gap
