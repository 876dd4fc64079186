use Rattle.http_frame.proofs.reply.push_state.Goals as goal

pub returns-in-Prefix-clause-line : goal.returns-in-Prefix-clause-line
returns-in-Prefix-clause-line c = rw c.in-Prefix.is (rw c.from.ensures at c.push_line.ensures.line)

pub returns-in-Edits-clause-line : goal.returns-in-Edits-clause-line
returns-in-Edits-clause-line c = rw c.in-Edits.is (rw c.from-in-Edits.ensures at c.push_line-in-Edits.ensures.line)
