use Rattle.std.proofs.Common.{arith}
use Rattle.survey_link.proofs.Held.{rest_after, front_length}
use Rattle.survey_link.proofs.inbox.Inbox.give.Goals as goal

pub returns-clause-rest : goal.returns-clause-rest
returns-clause-rest c =
    let size = front_length c.args.self.now.bytes.items c.args.self.now.start c.args.self.now.end c.args.self.now.ordered c.args.self.now.within in
    rest_after c.args.self.now.bytes.items c.args.self.now.start c.args.self.now.end c.args.count (omega (arith, size, c.requires, c.args.self.now.ordered))
