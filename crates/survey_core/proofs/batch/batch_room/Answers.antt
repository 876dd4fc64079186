use Rattle.std.proofs.Common.{◌+◌, ◌*◌, ◌≤◌, arith}
use Rattle.fits_header.specs.Cards.{whole_blocks}
use Rattle.fits_tile.specs.TileFile.{data_len}
use Rattle.survey_core.proofs.RoomLemmas.{room_fits}
use Rattle.survey_core.proofs.batch.batch_room.Goals as goal

pub overflow_mul-result : goal.overflow_mul-result
overflow_mul-result c =
    let shape = c.args.conf.now.shape in
    let kept = c.shape-shape.ensures.kept in
    let small : 4 * (106560 + whole_blocks (data_len shape)) ≤ 16777216 = room_fits shape.depth.bitpix shape.n kept.bitpix kept.shape.greatest_n in
    omega arith

pub returns-clause-at_most : goal.returns-clause-at_most
returns-clause-at_most c =
    let shape = c.args.conf.now.shape in
    let kept = c.shape-shape.ensures.kept in
    let small : 4 * (106560 + whole_blocks (data_len shape)) ≤ 16777216 = room_fits shape.depth.bitpix shape.n kept.bitpix kept.shape.greatest_n in
    omega arith
