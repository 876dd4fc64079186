use Rattle.pyramid_model.specs.TileLaws.{pixels_count, pixels_entry, pixels_leaf}
use Rattle.pyramid_model.proofs.laws.pixels_of_a_tile.Goals as goal

pub returns : goal.returns
returns c = record { count = pixels_count; entry = pixels_entry; leaf = pixels_leaf }
