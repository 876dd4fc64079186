use Rattle.mirror_frame.proofs.OneReply.{stands_alone}
use Rattle.mirror_frame.proofs.laws.one_reply_stands.Goals as goal

pub returns : goal.returns
returns c = stands_alone
