use Rattle.std.proofs.Common.{◌+◌, refl}
use Rattle.pyramid_model.specs.ValueLaws.{value_pixel, value_step}
use Rattle.pyramid_model.proofs.laws.a_value_is_of_its_children.Goals as goal

pub returns : goal.returns
returns c = record { pixel = λ shape leaves q. value_pixel shape leaves (shape.top + shape.n) q refl; above = value_step }
