use Rattle.std.proofs.Common.{◌∙◌, subst}
use Rattle.pyramid_model.specs.Shape.{PyramidShape}
use Rattle.generation.proofs.Mosaics.{IsMade, kept_file}
use Rattle.generation.proofs.mosaic.mosaic_file.Goals as goal

pub returns : goal.returns
returns g c =
    let same = c.shape.view_is ∙ c.shape-shape.ensures.shape in
    kept_file c.args.conf.now c.args.tiles.now c.in_ok-pixels.pixels c.file_of.result c.shape-shape.ensures.kept.shape
    (subst (λ (s : PyramidShape). IsMade s.depth s.n c.args.tiles.now c.in_ok-pixels.pixels) same
    (record { none = c.in_ok-pixels.ensures.none; mosaic = c.in_ok-pixels.ensures.mosaic; survey = c.in_ok-pixels.ensures.survey })) c.file_of.ensures
