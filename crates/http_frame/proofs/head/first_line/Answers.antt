use Rattle.http_frame.proofs.FirstLine.{line_at, line_whole}
use Rattle.http_frame.proofs.head.first_line.Goals as goal

pub returns-in-Some : goal.returns-in-Some
returns-in-Some c = line_at c.args.text.now c.in-Some.end (c.in-Some.ensures).1 (c.in-Some.ensures).0.before

pub returns-in-None : goal.returns-in-None
returns-in-None c = line_whole c.args.text.now (c.in-None.ensures)
