use Rattle.std.proofs.Common.{sym, subst, arith}
use Rattle.std.specs.Str.{IsUtf8}
use Rattle.catalog_command.proofs.Names.{name_is_text}
use Rattle.catalog_command.proofs.tile_name.tile_name.Goals as goal

pub unreachable-requires : goal.unreachable-requires
unreachable-requires c = c.in-Err.ensures.cases.0 (subst IsUtf8 (sym c.tsv_into-length.ensures.front) (name_is_text c.args.cell.order c.args.cell.npix (omega (arith, c.requires)) (omega arith)))
