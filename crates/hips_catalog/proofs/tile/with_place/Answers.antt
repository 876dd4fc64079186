use Rattle.std.proofs.Common.{◌≡◌, ◌<◌, length, ap, arith}
use Rattle.hips_catalog.specs.Tiles.{rows_at}
use Rattle.hips_catalog.proofs.Listed.{gap_rows}
use Rattle.hips_catalog.proofs.tile.with_place.Goals as goal

pub unreachable-requires : goal.unreachable-requires
unreachable-requires c =
    let none : length (rows_at c.args.tiles.now c.args.cell.order c.args.cell.npix) ≡ 0 = ap length (gap_rows c.args.tiles.now c.in-Err.field-0 c.args.cell c.requires.listed c.in-Err.ensures.gap) in
    let some : 0 < length (rows_at c.args.tiles.now c.args.cell.order c.args.cell.npix) = c.requires.some in
    omega (arith, none, some)
