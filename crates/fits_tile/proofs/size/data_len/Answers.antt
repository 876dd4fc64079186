use Rattle.std.proofs.Common.{◌<◌, ◌∙◌, ap, arith}
use Rattle.fits_tile.specs.TileFile.{data_len}
use Rattle.fits_tile.proofs.SizeLemmas.{shifted-len, len-at_most}
use Rattle.fits_tile.proofs.size.data_len.Goals as goal

pub returns-clause-len : goal.returns-clause-len
returns-clause-len c =
    let shape = c.shape.inside in
    let bits : shape.depth.bitpix < 256 = omega arith in
    shifted-len c.bytes.result shape.depth.bitpix shape.n c.bytes.ensures.bytes bits c.shape.invariant.greatest_n
    ∙ ap data_len c.shape.view_is

pub returns-clause-at_most : goal.returns-clause-at_most
returns-clause-at_most c =
    let shape = c.shape.inside in
    let bits : shape.depth.bitpix < 256 = omega arith in
    let len = shifted-len c.bytes.result shape.depth.bitpix shape.n c.bytes.ensures.bytes bits c.shape.invariant.greatest_n in
    let most = len-at_most shape.depth.bitpix shape.n bits c.shape.invariant.greatest_n in
    omega (arith, len, most)
