use Rattle.pyramid_model.specs.TileLaws.{exists_leaf, exists_step}
use Rattle.pyramid_model.proofs.laws.a_tile_exists_where_a_child_does.Goals as goal

pub returns : goal.returns
returns c = record { leaf = exists_leaf; above = exists_step }
