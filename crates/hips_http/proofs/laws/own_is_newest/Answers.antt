use Rattle.hips_http.proofs.Outcome.{own_is_newest}
use Rattle.hips_http.proofs.laws.own_is_newest.Goals as goal

pub returns : goal.returns
returns c = λ conf opening states connection history. own_is_newest conf opening states history connection
