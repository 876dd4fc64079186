use Rattle.std.specs.Prelude.{◌==◌}
use Rattle.survey_core.proofs.PlaceLemmas.{position-from_search}
use Rattle.survey_core.proofs.line.place_of.Goals as goal

pub returns : goal.returns
returns c = position-from_search (λ b. b == c.args.byte) c.args.bytes.now c.memchr.result c.memchr.ensures
