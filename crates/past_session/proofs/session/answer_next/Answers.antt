use Rattle.std.proofs.Common.{refl}
use Rattle.std.proofs.lemmas.Result.{err_from_is_err_and}
use Rattle.past_frame.specs.Reading.{record_of}
use Rattle.past_session.specs.Order.{moment}
use Rattle.past_session.proofs.Faulty.{reads_alone, halts}
use Rattle.past_session.proofs.Next.{part_answered}
use Rattle.past_session.proofs.session.answer_next.Goals as goal

pub returns-in_err-asked-clause-ends : goal.returns-in_err-asked-clause-ends
returns-in_err-asked-clause-ends g c =
    let p = err_from_is_err_and c.from_residual.result c.from_residual.ensures.1 in
    rw (p.1, p.2) (c.in_err-asked.ensures.ends c.args.session.now c.args.steps.now c.room-room.ensures.room)

pub returns-in_err-answer-clause-ends : goal.returns-in_err-answer-clause-ends
returns-in_err-answer-clause-ends g c =
    let p = err_from_is_err_and c.from_residual-in_err-answer.result c.from_residual-in_err-answer.ensures.1 in
    rw (p.1, p.2) (part_answered g.S.Source g.K.Sink _ _ c.args.at c.in_err-answer.field-0.0 (record {
      asked = record_of c.in_ok-asked.asked c.read_next.new.input.text.items;
      mid = moment c.args.session.now c.read_next.new.ends c.read_next.new.input c.args.steps.now;
      is_asked = c.in_ok-asked.ensures.asked c.args.session.now c.args.steps.now c.room-room.ensures.room;
      src = refl;
      fails = rw c.deref.ensures.value at c.in_err-answer.ensures.fails;
      cost = rw c.deref.ensures.value at c.answer.ensures.steps;
    }))

pub returns-clause-answers : goal.returns-clause-answers
returns-clause-answers g c = (
  record_of c.in_ok-asked.asked c.read_next.new.input.text.items,
  moment c.args.session.now c.read_next.new.ends c.read_next.new.input c.args.steps.now,
  c.in_ok-asked.ensures.asked c.args.session.now c.args.steps.now c.room-room.ensures.room,
  record {
    session = rw c.deref.ensures.value at c.in_ok-answer.ensures.after;
    src = refl;
    held = refl;
    sends = rw c.deref.ensures.value at c.in_ok-answer.ensures.sends;
    cost = rw c.deref.ensures.value at c.answer.ensures.steps;
  },
)

pub returns-in_err-asked-clause-faults : goal.returns-in_err-asked-clause-faults
returns-in_err-asked-clause-faults g c =
    let p = err_from_is_err_and c.from_residual.result c.from_residual.ensures.1 in
    rw (p.1, p.2) (reads_alone g.S.Source g.K.Sink _ _ _ _ c.in_err-asked.ensures.faults c.read_next.ensures.sink c.in_err-asked.ensures.not_written)

pub returns-in_err-answer-clause-faults : goal.returns-in_err-answer-clause-faults
returns-in_err-answer-clause-faults g c =
    let p = err_from_is_err_and c.from_residual-in_err-answer.result c.from_residual-in_err-answer.ensures.1 in
    rw (p.1, p.2) (halts g.S.Source g.K.Sink c.in_err-answer.field-0.0 _ _ c.in_ok-asked.ensures.no_fault (rw c.read_next.ensures.sink at c.in_err-answer.ensures.faults))

pub returns-clause-no_fault : goal.returns-clause-no_fault
returns-clause-no_fault g c = record {
  source = c.in_ok-asked.ensures.no_fault;
  sink = rw c.read_next.ensures.sink at c.in_ok-answer.ensures.faults;
}
