use Rattle.std.proofs.Common.{◌≡◌, ◌∙◌, sym}
use Rattle.std.specs.Arc.{arc_value}
use Rattle.past_reads.specs.Past.{past_generation}
use Rattle.command_output.specs.Output.{sink_bytes}
use Rattle.past_session.proofs.Told.{found_sends, found_fails, found_then, found_cost, refused_sends, refused_fails, refused_then, refused_cost}
use Rattle.past_session.proofs.kept.Session.answer_read.Goals as goal

pub returns-in-Ok-clause-sends : goal.returns-in-Ok-clause-sends
returns-in-Ok-clause-sends g c =
    let inside = c.self.inside in
    let is : c.deref.result.now ≡ past_generation inside.past.conf inside.journal.opening inside.journal.batches c.args.k = c.deref.ensures ∙ c.in-Ok.ensures.found in
    rw (sym c.self.view_is) (found_sends (arc_value inside.conf) inside.journal inside.past c.args.k c.args.path.now c.self.invariant c.deref.result.now c.send_file.result (sink_bytes g.K.Sink c.args.sink.now) (sink_bytes g.K.Sink c.send_file.new.sink) is c.in-Ok.ensures.whole c.send_file.ensures.sends)

pub returns-in-Ok-clause-fails : goal.returns-in-Ok-clause-fails
returns-in-Ok-clause-fails g c =
    let inside = c.self.inside in
    let is : c.deref.result.now ≡ past_generation inside.past.conf inside.journal.opening inside.journal.batches c.args.k = c.deref.ensures ∙ c.in-Ok.ensures.found in
    rw (sym c.self.view_is) (found_fails (arc_value inside.conf) inside.journal inside.past c.args.k c.args.path.now c.self.invariant c.deref.result.now c.send_file.result (sink_bytes g.K.Sink c.args.sink.now) (sink_bytes g.K.Sink c.send_file.new.sink) is c.in-Ok.ensures.whole c.send_file.ensures.fails)

pub returns-in-Ok-clause-after : goal.returns-in-Ok-clause-after
returns-in-Ok-clause-after g c =
    let inside = c.self.inside in
    rw (sym c.self.view_is) (found_then (arc_value inside.conf) inside.journal inside.past c.args.k c.args.path.now c.self.invariant c.at.new.self c.send_file.result c.in-Ok.ensures.held c.in-Ok.ensures.whole)

pub returns-in-Ok-clause-steps : goal.returns-in-Ok-clause-steps
returns-in-Ok-clause-steps g c =
    let inside = c.self.inside in
    rw (sym c.self.view_is) (found_cost (arc_value inside.conf) inside.journal inside.past c.args.k c.args.path.now c.self.invariant c.more_touched_is_more_work.ensures c.args.steps.now c.at.new.steps c.in-Ok.ensures.steps c.in-Ok.ensures.whole)

pub returns-in-Err-clause-sends : goal.returns-in-Err-clause-sends
returns-in-Err-clause-sends g c =
    let inside = c.self.inside in
    rw (sym c.self.view_is) (refused_sends (arc_value inside.conf) inside.journal inside.past c.args.k c.args.path.now c.self.invariant c.in-Err.refusal c.send_refusal.result (sink_bytes g.K.Sink c.args.sink.now) (sink_bytes g.K.Sink c.send_refusal.new.sink) c.in-Err.ensures.refused c.send_refusal.ensures.memory_faults c.send_refusal.ensures.sends)

pub returns-in-Err-clause-fails : goal.returns-in-Err-clause-fails
returns-in-Err-clause-fails g c =
    let inside = c.self.inside in
    rw (sym c.self.view_is) (refused_fails (arc_value inside.conf) inside.journal inside.past c.args.k c.args.path.now c.self.invariant c.in-Err.refusal c.send_refusal.result (sink_bytes g.K.Sink c.args.sink.now) (sink_bytes g.K.Sink c.send_refusal.new.sink) c.in-Err.ensures.refused c.send_refusal.ensures.memory_faults c.send_refusal.ensures.fails)

pub returns-in-Err-clause-after : goal.returns-in-Err-clause-after
returns-in-Err-clause-after g c =
    let inside = c.self.inside in
    rw (sym c.self.view_is) (refused_then (arc_value inside.conf) inside.journal inside.past c.args.k c.args.path.now c.self.invariant c.in-Err.refusal c.at.new.self c.send_refusal.result c.in-Err.ensures.refused c.send_refusal.ensures.memory_faults c.in-Err.ensures.kept)

pub returns-in-Err-clause-steps : goal.returns-in-Err-clause-steps
returns-in-Err-clause-steps g c =
    let inside = c.self.inside in
    rw (sym c.self.view_is) (refused_cost (arc_value inside.conf) inside.journal inside.past c.args.k c.args.path.now c.self.invariant c.more_touched_is_more_work.ensures c.args.steps.now c.at.new.steps c.at.ensures.steps c.in-Err.refusal c.in-Err.ensures.refused c.in-Err.ensures.no_steps)
