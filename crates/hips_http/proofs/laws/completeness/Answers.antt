use Rattle.hips_http.proofs.Fulfilled.{completeness}
use Rattle.hips_http.proofs.laws.completeness.Goals as goal

pub returns : goal.returns
returns c = completeness c.next_is_one.ensures c.next_head_is_one.ensures c.spellings_differ.ensures
