use Rattle.std.proofs.Common.{◌-◌, ◌/◌, ◌^◌, ap, arith}
use Rattle.healpix_nested.specs.Cells.{NestedCell}
use Rattle.healpix_nested.specs.CellLaws.{four_pow, ancestor_is_cell}
use Rattle.healpix_nested.proofs.cell.Cell.ancestor.Goals as goal

pub invariant_of-result : goal.invariant_of-result
invariant_of-result c = rw (four_pow (c.self.inside.order - c.args.order))
    (ancestor_is_cell c.self.inside.order c.self.inside.npix c.args.order c.self.invariant
    (omega (arith, ap (λ (v : NestedCell). v.order) c.self.view_is)))

pub returns-clause-npix : goal.returns-clause-npix
returns-clause-npix c = rw (four_pow (c.self.inside.order - c.args.order))
    (ap (λ (v : NestedCell). v.npix / 4 ^ (v.order - c.args.order)) c.self.view_is)
