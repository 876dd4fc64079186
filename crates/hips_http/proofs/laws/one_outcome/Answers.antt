use Rattle.hips_http.proofs.Outcome.{one_outcome}
use Rattle.hips_http.proofs.laws.one_outcome.Goals as goal

pub returns : goal.returns
returns c = λ conf opening states one other history. one_outcome conf opening states history c.next_is_one.ensures c.next_head_is_one.ensures c.spellings_differ.ensures one other
