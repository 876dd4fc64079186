use Rattle.std.proofs.Common.{◌<◌, ◌^◌, arith}
use Rattle.std.proofs.lemmas.Int.{ints}
use Rattle.fits_tile.proofs.SizeLemmas.{cell-small}
use Rattle.fits_tile.proofs.cards.number_of.Goals as goal

pub overflow_cast-result : goal.overflow_cast-result
overflow_cast-result c =
    let small : c.args.cell.npix < 2 ^ 63 = cell-small c.args.cell.order c.args.cell.npix c.npix.ensures.known in
    omega (arith, ints, small, c.npix.ensures.npix)

pub returns : goal.returns
returns c =
    let small : c.args.cell.npix < 2 ^ 63 = cell-small c.args.cell.order c.args.cell.npix c.npix.ensures.known in
    omega (arith, ints, small, c.npix.ensures.npix)
