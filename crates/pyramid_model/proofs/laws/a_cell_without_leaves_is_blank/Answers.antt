use Rattle.pyramid_model.specs.ValueLaws.{blank_under}
use Rattle.pyramid_model.specs.TileLaws.{pixels_blank}
use Rattle.pyramid_model.proofs.laws.a_cell_without_leaves_is_blank.Goals as goal

pub returns : goal.returns
returns c = record { cell = blank_under; tile = pixels_blank }
