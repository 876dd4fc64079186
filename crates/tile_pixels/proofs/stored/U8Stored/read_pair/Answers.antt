use Rattle.tile_pixels.proofs.RowAbove.{first_of_pair, second_of_pair}
use Rattle.tile_pixels.proofs.Rows.{are_bytes}
use Rattle.tile_pixels.proofs.stored.U8Stored.read_pair.Goals as goal

pub returns-clause-first : goal.returns-clause-first
returns-clause-first c = first_of_pair c.args.row.now c.args.i c.read_u16-pair.result (are_bytes c.args.row.now c.type_inv.row) c.read_u16-pair.ensures

pub returns-clause-second : goal.returns-clause-second
returns-clause-second c = second_of_pair c.args.row.now c.args.i c.read_u16-pair.result (are_bytes c.args.row.now c.type_inv.row) c.read_u16-pair.ensures
