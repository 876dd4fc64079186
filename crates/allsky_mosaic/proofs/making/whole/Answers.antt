use Rattle.std.proofs.Common.{refl, arith}
use Rattle.allsky_mosaic.specs.Tiles.{IsSurvey, order_3, leaf_map}
use Rattle.allsky_mosaic.proofs.MosaicLemmas.{mosaic_of_bands, cells_of_survey, cells_of_tiles}
use Rattle.allsky_mosaic.proofs.making.whole.Goals as goal

pub returns-clause-survey : goal.returns-clause-survey
returns-clause-survey g c shape leaves survey shows =
    mosaic_of_bands shape leaves c.args.depth c.args.n c.in_ok-raw.raw.items survey c.in_ok-raw.ensures.long
    (c.in_ok-raw.ensures.shown shape leaves survey (cells_of_survey shape leaves c.args.depth c.args.n c.args.tiles.now c.requires.tiles survey shows))

pub returns-clause-mosaic : goal.returns-clause-mosaic
returns-clause-mosaic g c =
    let shape = order_3 c.args.depth c.args.n in
    let leaves = leaf_map c.args.tiles.now in
    let survey : IsSurvey c.args.depth c.args.n shape = record { depth_is = refl; n_is = refl; top = omega arith } in
    mosaic_of_bands shape leaves c.args.depth c.args.n c.in_ok-raw.raw.items survey c.in_ok-raw.ensures.long
    (c.in_ok-raw.ensures.shown shape leaves survey (cells_of_tiles c.args.depth c.args.n c.args.tiles.now c.requires.greatest_n c.requires.tiles))
