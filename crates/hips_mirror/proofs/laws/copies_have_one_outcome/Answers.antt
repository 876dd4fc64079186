use Rattle.hips_mirror.proofs.OnceLemmas.{one_outcome}
use Rattle.hips_mirror.proofs.laws.copies_have_one_outcome.Goals as goal

pub returns : goal.returns
returns c = one_outcome c.one_reply_stands.ensures c.read_is_normal.ensures c.made_cards_are_cards.ensures c.leaves_come_back.ensures
