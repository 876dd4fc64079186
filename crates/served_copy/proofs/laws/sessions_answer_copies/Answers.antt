use Rattle.served_copy.proofs.Sessions.{session_answers}
use Rattle.served_copy.proofs.laws.sessions_answer_copies.Goals as goal

pub returns : goal.returns
returns c = session_answers c.next_is_one.ensures c.spellings_differ.ensures c.completeness.ensures
