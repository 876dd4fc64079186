use Rattle.std.proofs.Common.{◌≡◌, ◌∙◌, ◌^◌, ap, length}
use Rattle.pyramid_model.specs.Shape.{PyramidShape}
use Rattle.survey_conf.specs.Description.{Description}
use Rattle.survey_make.proofs.MadeLemmas.{made_shape, shape-made}
use Rattle.survey_make.proofs.EditLemmas.{numbers-read, numbers-len, numbers-in}
use Rattle.tile_pixels.specs.Stored.{numbers_from}
use Rattle.survey_make.proofs.edit.tile.Goals as goal

pub from_bytes-requires-clause-raw : goal.from_bytes-requires-clause-raw
from_bytes-requires-clause-raw c =
    let shape : PyramidShape = record { top = c.shape.inside.top; low = c.shape.inside.low; n = c.shape.inside.n; depth = c.shape.inside.depth } in
    let is : shape ≡ made_shape = c.shape.view_is ∙ c.shape-shape.ensures.shape ∙ ap (λ (d : Description). d.shape) c.requires ∙ shape-made in
    ap length (c.deref.ensures.value ∙ c.in_ok-raw.ensures) ∙ numbers-len c.args.x shape is

pub returns-clause-numbers : goal.returns-clause-numbers
returns-clause-numbers c =
    let shape : PyramidShape = record { top = c.shape.inside.top; low = c.shape.inside.low; n = c.shape.inside.n; depth = c.shape.inside.depth } in
    let is : shape ≡ made_shape = c.shape.view_is ∙ c.shape-shape.ensures.shape ∙ ap (λ (d : Description). d.shape) c.requires ∙ shape-made in
    numbers-in c.from_bytes.result c.args.x _ c.from_bytes.ensures.tile
    (ap (numbers_from shape.depth.bitpix (4 ^ shape.n)) (c.deref.ensures.value ∙ c.in_ok-raw.ensures) ∙ numbers-read c.args.x shape is)
