use Rattle.std.proofs.Common.{take, ◌≡◌, length}
use Rattle.http_frame.proofs.Taken.{reads_behind, given_whole}
use Rattle.survey_link.specs.Inbox.{held}
use Rattle.http_frame.proofs.fill.take_exact.Goals as goal

pub returns-clause-needed : goal.returns-clause-needed
returns-clause-needed g c =
    let give = c.give_to-front in
    let size : length give.new.out ≡ length c.args.out.now = give.ensures.len in
    reads_behind _ _ _ (take give.result give.new.out) (held give.new.self) (held c.args.inbox.now) c.fill_behind.new.out _ _ _ _
    give.ensures.given (given_whole give.new.out (held give.new.self) give.result _ size give.ensures.all) (rw size at c.fill_behind.ensures.needed)
