use Rattle.http_frame.proofs.ReadLemmas.{reads_consume}
use Rattle.survey_link.specs.Inbox.{held}
use Rattle.mirror_frame.proofs.Replies.{told_ok, told_err, told_prefix}
use Rattle.mirror_frame.proofs.Exchanges.{exchanged}
use Rattle.mirror_frame.proofs.peer.Peer.ask.Goals as goal

pub returns-in-Ok-clause-asked : goal.returns-in-Ok-clause-asked
returns-in-Ok-clause-asked g c =
    let read = c.read.ensures.read in
    exchanged g.S.Source g.K.Sink c.args.ask.now c.args.due _ _ _ _ _ c.read.new.self.body.items (held c.read.new.self.inbox) read.0
    c.in-Ok.ensures.sent c.in-Ok.ensures.flushed read.1 c.read.result read.2

pub returns-in-Ok-clause-read : goal.returns-in-Ok-clause-read
returns-in-Ok-clause-read g c =
    let read = c.read.ensures.read in
    told_ok c.args.due _ read.0 _ _ _ _ c.read.result (reads_consume _ _ _ _ _ _ _ read.1) read.2

pub returns-in-Ok-clause-stop : goal.returns-in-Ok-clause-stop
returns-in-Ok-clause-stop g c =
    let read = c.read.ensures.read in
    told_err c.args.due _ read.0 _ _ _ _ c.read.result (reads_consume _ _ _ _ _ _ _ read.1) read.2

pub returns-in-Ok-clause-prefix : goal.returns-in-Ok-clause-prefix
returns-in-Ok-clause-prefix g c =
    let read = c.read.ensures.read in
    told_prefix c.args.due _ _ _ _ c.read.result read.2
