use Rattle.std.proofs.Common.{◌≡◌, ℕ, ◌+◌, [], ◌++◌, refl, subst, arith}
use Rattle.http_frame.specs.Readings.{ReadsWhile}
use Rattle.hips_http.specs.Moment.{moment_of}
use Rattle.hips_http.specs.SessionRun.{most_requests}
use Rattle.hips_http.specs.declared.served.SessionEnd.TheVariants.{Asked, Spent}
use Rattle.hips_http.proofs.ReadRequests.{NeedsAmong, has_read_none, has_read_more, has_read_left, reads_on, reads_among}
use Rattle.hips_http.proofs.InOrder.{in_order}
use Rattle.hips_http.proofs.Steps.{same_ends}
use Rattle.hips_http.proofs.Sessions.{begins_loop, loop_goes_on, asked_all, stopped_all, spent_all}
use Rattle.hips_http.proofs.connection.answer_all.Goals as goal

pub loop-count-init : goal.loop-count-init
loop-count-init g c =
    let connection = c.args.connection.now in
    let r = c.requires in (
      record { frame = refl; board = refl; src = refl; sink = refl; steps = refl },
      begins_loop c.args.top (moment_of g.S.Source g.K.Sink g.B.Board.content connection) r.released r.legal r.owned r.memory_faults r.empty r.turn r.room r.top,
      λ _. has_read_none g.S.Source.left g.S.Source.readings connection.frame.now.room connection.frame.now.held connection.src.now r.empty,
    )

pub loop-count-preserved : goal.loop-count-preserved
loop-count-preserved g c =
    let at = moment_of g.S.Source g.K.Sink g.B.Board.content in
    let first = c.args.connection.now in
    let now = c.loop-count.connection in
    let new = c.answer_next.new.connection in
    let i = c.loop-count.invariant in
    let e = c.in-Ok-false.ensures in
    let s = rw c.in-Ok-false.field-0-test at e.serves in (
      same_ends first now new i.0 e.same,
      loop_goes_on c.loop-count.count c.args.top (at first) (at now) (at new) i.1 s.never_falls s.ok s.faults s.hands.flushed s.turn,
      λ some.
          let so = i.2 some in
          let took = e.reads (has_read_left g.S.Source.left g.S.Source.readings first.frame.now.room c.loop-count.count now.frame.now.held first.src.now now.src.now so some) in
          has_read_more g.S.Source.left g.S.Source.readings first.frame.now.room c.loop-count.count now.frame.now.held first.src.now now.src.now new.src.now so c.loop-count-test.true took.0 (rw i.1.same_room at took.1)
          new.frame.now.held (rw (i.1.same_room, c.in-Ok-false.field-0-test) at took.2),
    )

pub returns-in-Ok-true-clause-serves : goal.returns-in-Ok-true-clause-serves
returns-in-Ok-true-clause-serves g c =
    let at = moment_of g.S.Source g.K.Sink g.B.Board.content in
    let s = rw c.in-Ok-true.field-0-test at c.in-Ok-true.ensures.serves in
    (asked_all c.loop-count.count c.args.top (at c.args.connection.now) (at c.loop-count.connection) (at c.answer_next.new.connection) c.loop-count.invariant.1 s.never_falls c.loop-count-test.true s).serves

pub returns-in-Err-clause-serves : goal.returns-in-Err-clause-serves
returns-in-Err-clause-serves g c =
    let at = moment_of g.S.Source g.K.Sink g.B.Board.content in
    let s = c.in-Err.ensures.serves in
    (stopped_all c.loop-count.count c.args.top (at c.args.connection.now) (at c.loop-count.connection) (at c.answer_next.new.connection) c.loop-count.invariant.1 s.never_falls c.in-Err.end c.loop-count-test.true s).serves

pub returns-clause-serves : goal.returns-clause-serves
returns-clause-serves g c =
    let at = moment_of g.S.Source g.K.Sink g.B.Board.content in
    let all : c.loop-count.count ≡ most_requests = omega arith in
    (spent_all c.loop-count.count c.args.top (at c.args.connection.now) (at c.loop-count.connection) c.loop-count.invariant.1 all).serves

-- ---- the ends

pub returns-in-Ok-true-clause-same : goal.returns-in-Ok-true-clause-same
returns-in-Ok-true-clause-same g c = same_ends c.args.connection.now c.loop-count.connection c.answer_next.new.connection c.loop-count.invariant.0 c.in-Ok-true.ensures.same

pub returns-in-Err-clause-same : goal.returns-in-Err-clause-same
returns-in-Err-clause-same g c = same_ends c.args.connection.now c.loop-count.connection c.answer_next.new.connection c.loop-count.invariant.0 c.in-Err.ensures.same

-- ---- what was read, and in which order

pub returns-in-Ok-true-clause-order : goal.returns-in-Ok-true-clause-order
returns-in-Ok-true-clause-order g c =
    let at = moment_of g.S.Source g.K.Sink g.B.Board.content in
    let first = c.args.connection.now in
    let now = c.loop-count.connection in
    let new = c.answer_next.new.connection in
    let i = c.loop-count.invariant in
    let s = rw c.in-Ok-true.field-0-test at c.in-Ok-true.ensures.serves in
    in_order g.S.Source _ c.loop-count.count (at first) (at new) Asked first.src.now new.src.now (g.S.Source.left first.src.now)
    (asked_all c.loop-count.count c.args.top (at first) (at now) (at new) i.1 s.never_falls c.loop-count-test.true s).served (λ some.
    let so = i.2 some in
    let took = c.in-Ok-true.ensures.reads (has_read_left g.S.Source.left g.S.Source.readings first.frame.now.room c.loop-count.count now.frame.now.held first.src.now now.src.now so some) in (
      so.came ++ took.0,
      subst (λ (room : ℕ). ReadsWhile g.S.Source.left g.S.Source.readings (NeedsAmong room (c.loop-count.count + 1)) [] first.src.now new.src.now (so.came ++ took.0)) c.requires.room
          (reads_on g.S.Source.left g.S.Source.readings first.frame.now.room c.loop-count.count now.frame.now.held first.src.now now.src.now new.src.now so c.loop-count-test.true
          took.0 (rw i.1.same_room at took.1)),
    ))

pub returns-in-Err-clause-order : goal.returns-in-Err-clause-order
returns-in-Err-clause-order g c =
    let at = moment_of g.S.Source g.K.Sink g.B.Board.content in
    let first = c.args.connection.now in
    let now = c.loop-count.connection in
    let new = c.answer_next.new.connection in
    let i = c.loop-count.invariant in
    let s = c.in-Err.ensures.serves in
    in_order g.S.Source _ c.loop-count.count (at first) (at new) c.in-Err.end first.src.now new.src.now (g.S.Source.left first.src.now)
    (stopped_all c.loop-count.count c.args.top (at first) (at now) (at new) i.1 s.never_falls c.in-Err.end c.loop-count-test.true s).served (λ some.
    let so = i.2 some in
    let took = c.in-Err.ensures.reads (has_read_left g.S.Source.left g.S.Source.readings first.frame.now.room c.loop-count.count now.frame.now.held first.src.now now.src.now so some) in (
      so.came ++ took.0,
      subst (λ (room : ℕ). ReadsWhile g.S.Source.left g.S.Source.readings (NeedsAmong room (c.loop-count.count + 1)) [] first.src.now new.src.now (so.came ++ took.0)) c.requires.room
          (reads_on g.S.Source.left g.S.Source.readings first.frame.now.room c.loop-count.count now.frame.now.held first.src.now now.src.now new.src.now so c.loop-count-test.true
          took.0 (rw i.1.same_room at took.1)),
    ))

pub returns-clause-order : goal.returns-clause-order
returns-clause-order g c =
    let at = moment_of g.S.Source g.K.Sink g.B.Board.content in
    let first = c.args.connection.now in
    let now = c.loop-count.connection in
    let all : c.loop-count.count ≡ most_requests = omega arith in
    in_order g.S.Source _ c.loop-count.count (at first) (at now) Spent first.src.now now.src.now (g.S.Source.left first.src.now)
    (spent_all c.loop-count.count c.args.top (at first) (at now) c.loop-count.invariant.1 all).served (λ some.
    let so = c.loop-count.invariant.2 some in (
      so.came,
      subst (λ (room : ℕ). ReadsWhile g.S.Source.left g.S.Source.readings (NeedsAmong room (c.loop-count.count + 1)) [] first.src.now now.src.now so.came) c.requires.room
          (reads_among g.S.Source.left g.S.Source.readings first.frame.now.room c.loop-count.count first.src.now now.src.now so.came so.reads),
    ))
