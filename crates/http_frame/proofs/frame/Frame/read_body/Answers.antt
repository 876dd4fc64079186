use Rattle.std.proofs.Common.{refl, ◌++◌, ◌≡◌}
use Rattle.std.proofs.lemmas.List.{take-append-drop}
use Rattle.survey_link.specs.Inbox.{held, given}
use Rattle.http_frame.proofs.Nexts.{reads_body, nothing_left}
use Rattle.http_frame.proofs.frame.Frame.read_body.Goals as goal

pub returns-in-Ok-clause-leaves : goal.returns-in-Ok-clause-leaves
returns-in-Ok-clause-leaves g c =
    let split : given c.args.count c.give.new.self ++ held c.give.new.self ≡ held c.fill_body.new.buffer =
    rw (c.give.ensures.given, c.give.ensures.rest) (take-append-drop c.args.count (held c.fill_body.new.buffer)) in
    record {
      read = rw (← c.self.view_is) (reads_body (held c.self.inside.buffer) (held c.fill_body.new.buffer) (given c.args.count c.give.new.self) (held c.give.new.self) _ _ c.in-Ok.ensures.taken split);
      turn = refl;
      exact = rw (← c.self.view_is) (nothing_left (held c.self.inside.buffer) (held c.fill_body.new.buffer) (held c.give.new.self) c.args.count c.in-Ok.ensures.exact c.in-Ok.ensures.filled c.give.ensures.rest);
      stopped = tt;
      stop = tt;
    }
