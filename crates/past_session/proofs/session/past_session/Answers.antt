use Rattle.std.proofs.Common.{[], rules}
use Rattle.std.specs.Arc.{arc_value}
use Rattle.past_session.specs.Answers.{first_state}
use Rattle.past_session.specs.Order.{first_moment}
use Rattle.past_session.proofs.Runs.{run, over, over_flushes, never_begun}
use Rattle.past_session.proofs.session.past_session.Goals as goal

pub returns-in-Ok-clause-order : goal.returns-in-Ok-clause-order
returns-in-Ok-clause-order g c = search rules

pub returns-in-Ok-clause-run : goal.returns-in-Ok-clause-run
returns-in-Ok-clause-run g c =
    let order = returns-in-Ok-clause-order g c in
    run g.S.Source g.K.Sink c.records_stand.ensures (arc_value c.args.opening).conf (arc_value c.args.opening).leaves c.args.src.now c.args.sink.now c.args.steps.now _ c.answer_all.result order.2

pub returns-in-Ok-clause-over : goal.returns-in-Ok-clause-over
returns-in-Ok-clause-over g c =
    let order = returns-in-Ok-clause-order g c in
    over g.S.Source g.K.Sink c.records_stand.ensures (arc_value c.args.opening).conf (arc_value c.args.opening).leaves c.args.src.now c.args.sink.now c.args.steps.now _ c.answer_all.result order.2

pub returns-in-Ok-clause-flushed : goal.returns-in-Ok-clause-flushed
returns-in-Ok-clause-flushed g c = λ other. over_flushes _ _ _ _ _ _ _ _ c.answer_all.result (returns-in-Ok-clause-over g c) other

pub returns-in-Err-clause-order : goal.returns-in-Err-clause-order
returns-in-Err-clause-order g c =
    let d = (arc_value c.args.opening).conf in
    let opening = (arc_value c.args.opening).leaves in
    (record { conf = d; opening = opening; state = first_state }, [], never_begun g.S.Source g.K.Sink (first_moment d opening c.args.src.now c.args.sink.now c.args.steps.now))

pub returns-in-Err-clause-run : goal.returns-in-Err-clause-run
returns-in-Err-clause-run g c =
    run g.S.Source g.K.Sink c.records_stand.ensures (arc_value c.args.opening).conf (arc_value c.args.opening).leaves c.args.src.now c.args.sink.now c.args.steps.now _ _ (returns-in-Err-clause-order g c).2

pub returns-in-Err-clause-over : goal.returns-in-Err-clause-over
returns-in-Err-clause-over g c =
    over g.S.Source g.K.Sink c.records_stand.ensures (arc_value c.args.opening).conf (arc_value c.args.opening).leaves c.args.src.now c.args.sink.now c.args.steps.now _ _ (returns-in-Err-clause-order g c).2
