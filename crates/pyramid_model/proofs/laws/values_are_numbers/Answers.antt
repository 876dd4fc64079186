use Rattle.pyramid_model.specs.ValueLaws.{value_number}
use Rattle.pyramid_model.proofs.laws.values_are_numbers.Goals as goal

pub returns : goal.returns
returns c = value_number
