use Rattle.std.proofs.Common.{ℕ, ◌^◌, ◌<◌, sym, ap, ◌∙◌, subst}
use Rattle.healpix_nested.specs.Place.{Interleaves, column_of, line_of}
use Rattle.healpix_nested.specs.PlaceLaws.{z_order_interleaves, z_order_below, column_of-z_order, line_of-z_order}
use Rattle.healpix_nested.proofs.Masks.{interleaved}
use Rattle.healpix_nested.proofs.place.interleave.Goals as goal

pub returns-clause-number : goal.returns-clause-number
returns-clause-number c =
    interleaved c.args.col c.args.row c.spread.result c.spread-2.result c.from.result
    c.requires.col c.spread.ensures c.spread-2.ensures c.from.ensures

pub returns-clause-bits : goal.returns-clause-bits
returns-clause-bits c =
    subst (λ (z : ℕ). Interleaves z c.args.col c.args.row) (sym (returns-clause-number c))
    (z_order_interleaves c.args.col c.args.row c.requires.col c.requires.row)

pub returns-clause-below : goal.returns-clause-below
returns-clause-below c =
    subst (λ (z : ℕ). z < 4 ^ 9) (sym (returns-clause-number c))
    (z_order_below 9 c.args.col c.args.row c.requires.col c.requires.row)

pub returns-clause-column : goal.returns-clause-column
returns-clause-column c =
    ap (λ (z : ℕ). column_of z) (returns-clause-number c) ∙ column_of-z_order c.args.col c.args.row c.requires.col

pub returns-clause-line : goal.returns-clause-line
returns-clause-line c =
    ap (λ (z : ℕ). line_of z) (returns-clause-number c) ∙ line_of-z_order c.args.col c.args.row c.requires.row
