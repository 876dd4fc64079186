use Rattle.std.proofs.Common.{refl}
use Rattle.survey_link.specs.Inbox.{held}
use Rattle.http_frame.specs.FrameFields.{shown}
use Rattle.http_frame.proofs.Nexts.{found_with, reads_head, refuses_head, keeps_unread, stops_head}
use Rattle.http_frame.proofs.frame.Frame.next_head.Goals as goal

pub returns-in-Err-clause-stop : goal.returns-in-Err-clause-stop
returns-in-Err-clause-stop g c =
    rw (← c.self.view_is) (stops_head (shown c.self.inside) (shown (record c.self.inside { buffer = c.fill_head.new.buffer; given = 0 })) _ _ c.in-Err.stop c.in-Err.ensures.taken c.in-Err.ensures.stop)

pub returns-in-Ok-take_head-clause-read : goal.returns-in-Ok-take_head-clause-read
returns-in-Ok-take_head-clause-read g c = record {
  next = rw (← c.self.view_is) (reads_head c.self.inside.room (held c.self.inside.buffer) (held c.fill_head.new.buffer) (held c.give.new.self) _ _ c.in-Ok-take_head.request _ c.in-Ok.length
      c.in-Ok.ensures.taken c.in-Ok.ensures.found (rw c.held.ensures at c.in-Ok-take_head.ensures.taken) c.give.ensures.rest);
  turn = refl;
}

pub returns-in-Ok-take_head-clause-needed : goal.returns-in-Ok-take_head-clause-needed
returns-in-Ok-take_head-clause-needed g c =
    let read = c.in-Ok.ensures.needed in
    rw (← c.self.view_is) (
      read.0,
      read.1,
      found_with c.self.inside.room (held c.fill_head.new.buffer) (held c.self.inside.buffer) read.0 (held c.give.new.self) c.in-Ok-take_head.request _ c.in-Ok.length read.2
          c.in-Ok.ensures.found (rw c.held.ensures at c.in-Ok-take_head.ensures.taken) c.give.ensures.rest,
    )

pub returns-in-Err-take_head-clause-stop : goal.returns-in-Err-take_head-clause-stop
returns-in-Err-take_head-clause-stop g c =
    rw (← c.self.view_is) (refuses_head c.self.inside.room (held c.self.inside.buffer) (held c.fill_head.new.buffer) _ _ c.in-Err-take_head.code c.in-Ok.length
    c.in-Ok.ensures.taken c.in-Ok.ensures.found (rw c.held.ensures at c.in-Err-take_head.ensures.refused))

pub returns-in-Err-take_head-clause-kept : goal.returns-in-Err-take_head-clause-kept
returns-in-Err-take_head-clause-kept g c =
    rw (← c.self.view_is) (keeps_unread (held c.self.inside.buffer) (held c.fill_head.new.buffer) _ _ c.in-Ok.ensures.taken)

pub returns-in-Err-take_head-clause-needed : goal.returns-in-Err-take_head-clause-needed
returns-in-Err-take_head-clause-needed g c = rw (← c.self.view_is) c.in-Ok.ensures.needed
