use Rattle.std.proofs.Common.{inl, subst, Err}
use Rattle.http_frame.proofs.ReadLemmas.{reads_for}
use Rattle.http_frame.specs.Next.{NeedsMore}
use Rattle.survey_link.specs.Inbox.{held}
use Rattle.mirror_frame.specs.Reply.{IsCutReply}
use Rattle.mirror_frame.specs.Reading.{ReadsReply}
use Rattle.mirror_frame.proofs.Replies.{stops_begun, read_both}
use Rattle.mirror_frame.proofs.reading.read_reply.Goals as goal

pub returns-in-Ok-clause-read : goal.returns-in-Ok-clause-read
returns-in-Ok-clause-read g c =
    read_both _ _ c.args.due (held c.args.inbox.now) (held c.begin_reply.new.inbox) _ _ _ c.in-Ok.begun.end c.in-Ok.ensures.begun.ends c.begin_reply.ensures.read
    (λ bytes. ReadsReply c.args.due bytes c.finish_reply.new.body.items (held c.finish_reply.new.inbox) (g.S.Source.left c.finish_reply.new.src) c.finish_reply.result) c.finish_reply.ensures.read

pub returns-in-Err-clause-read : goal.returns-in-Err-clause-read
returns-in-Err-clause-read g c =
    let read = c.begin_reply.ensures.read in (
      read.0,
      reads_for _ _ NeedsMore (IsCutReply c.args.due) _ _ read.0 (λ more needs. inl (needs.short, needs.none)) _ _ read.1,
      subst (λ bytes. ReadsReply c.args.due bytes c.args.body.now.items (held c.begin_reply.new.inbox) (g.S.Source.left c.begin_reply.new.src) (Err c.in-Err.stop)) read.2
          (stops_begun c.args.due _ c.args.body.now.items (held c.begin_reply.new.inbox) _ c.in-Err.stop c.in-Err.ensures.stop),
    )
