use Rattle.http_frame.proofs.Unique.{one_next_head}
use Rattle.http_frame.proofs.laws.next_head_is_one.Goals as goal

pub returns : goal.returns
returns c = one_next_head
