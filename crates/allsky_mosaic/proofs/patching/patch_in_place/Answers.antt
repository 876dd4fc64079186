use Rattle.std.proofs.Common.{refl, arith}
use Rattle.allsky_mosaic.specs.Tiles.{IsSurvey, order_3, leaf_map}
use Rattle.allsky_mosaic.proofs.MosaicLemmas.{cells_of_survey, cells_of_tiles}
use Rattle.allsky_mosaic.proofs.PatchLemmas.{patched}
use Rattle.allsky_mosaic.proofs.patching.patch_in_place.Goals as goal

pub returns-clause-survey : goal.returns-clause-survey
returns-clause-survey c shape leaves survey shows =
    let show = cells_of_survey shape leaves c.args.depth c.args.n c.args.tiles.now c.requires.tiles survey shows in
    patched shape leaves c.args.depth c.args.n c.args.touched.now c.args.tiles.now c.args.raw.now c.args.raw.now c.patch_cells.new.raw c.requires.greatest_n c.requires.old refl c.patch_cells.auto.raw survey show
    (c.in_ok-patch_cells.ensures shape leaves survey show)

pub returns-clause-mosaic : goal.returns-clause-mosaic
returns-clause-mosaic c =
    let shape = order_3 c.args.depth c.args.n in
    let survey : IsSurvey c.args.depth c.args.n shape = record { depth_is = refl; n_is = refl; top = omega arith } in
    let show = cells_of_tiles c.args.depth c.args.n c.args.tiles.now c.requires.greatest_n c.requires.tiles in
    patched shape (leaf_map c.args.tiles.now) c.args.depth c.args.n c.args.touched.now c.args.tiles.now c.args.raw.now c.args.raw.now c.patch_cells.new.raw c.requires.greatest_n c.requires.old refl c.patch_cells.auto.raw survey show
    (c.in_ok-patch_cells.ensures shape (leaf_map c.args.tiles.now) survey show)
