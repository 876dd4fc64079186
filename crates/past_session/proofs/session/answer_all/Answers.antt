use Rattle.std.proofs.Common.{inl, inr, arith, refl, sym, subst, ◌∙◌}
use Rattle.past_session.specs.Order.{moment, EndsAt}
use Rattle.past_session.specs.Run.{is_read_fault, is_write_fault}
use Rattle.past_session.proofs.Faulty.{faults_on, reads_alone}
use Rattle.past_session.proofs.Going.{loop_begins, loop_goes_on}
use Rattle.past_session.proofs.session.answer_all.Goals as goal

pub loop-at-init : goal.loop-at-init
loop-at-init g c = record {
  loop = loop_begins g.S.Source g.K.Sink (moment c.args.session.now c.args.ends.now c.args.input.now c.args.steps.now);
  same_ends = record { src = refl; sink = refl };
}

pub loop-at-preserved : goal.loop-at-preserved
loop-at-preserved g c =
    let e = c.in-Ok.ensures in
    record {
      loop = loop_goes_on g.S.Source g.K.Sink _ _ _ c.loop-at.at c.loop-at.invariant.loop e.answers e.never_falls e.no_fault;
      same_ends = record { src = e.same_ends.src ∙ c.loop-at.invariant.same_ends.src; sink = e.same_ends.sink ∙ c.loop-at.invariant.same_ends.sink };
    }

pub returns-in-Err-clause-order : goal.returns-in-Err-clause-order
returns-in-Err-clause-order g c =
    let loop = c.loop-at.invariant.loop in
    let behind = moment c.loop-at.session c.loop-at.ends c.loop-at.input c.loop-at.steps in
    let last = moment c.answer_next.new.session c.answer_next.new.ends c.answer_next.new.input c.answer_next.new.steps in
    record {
      records = loop.records;
      behind = behind;
      converses = loop.converses;
      ends = inl (omega (arith, loop.count_is, c.loop-at-test.true), subst (λ n. EndsAt g.S.Source g.K.Sink n behind last c.in-Err.end) (sym loop.count_is) c.in-Err.ensures.ends);
    }

pub returns-clause-order : goal.returns-clause-order
returns-clause-order g c =
    let loop = c.loop-at.invariant.loop in
    record {
      records = loop.records;
      behind = moment c.loop-at.session c.loop-at.ends c.loop-at.input c.loop-at.steps;
      converses = loop.converses;
      ends = inr (omega (arith, loop.count_is, c.loop-at-test.false, c.loop-at.auto.at-end), c.end_behind_all.ensures.ends c.loop-at.session c.loop-at.steps);
    }

pub returns-in-Err-clause-faults : goal.returns-in-Err-clause-faults
returns-in-Err-clause-faults g c = faults_on g.S.Source g.K.Sink (is_read_fault c.in-Err.end) (is_write_fault c.in-Err.end) _ _ _ c.loop-at.invariant.loop.faults c.in-Err.ensures.faults

pub returns-clause-faults : goal.returns-clause-faults
returns-clause-faults g c =
    let e = c.end_behind_all.ensures in
    let end = c.end_behind_all.result in
    faults_on g.S.Source g.K.Sink (is_read_fault end) (is_write_fault end) _ _ _ c.loop-at.invariant.loop.faults (reads_alone g.S.Source g.K.Sink (is_read_fault end) (is_write_fault end) _ _ e.faults e.sink e.not_written)
