use Rattle.http_frame.proofs.Unique.{one_next}
use Rattle.http_frame.proofs.laws.next_is_one.Goals as goal

pub returns : goal.returns
returns c = one_next
