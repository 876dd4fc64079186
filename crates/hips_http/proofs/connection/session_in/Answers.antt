use Rattle.std.proofs.Common.{rules, [], refl}
use Rattle.hips_http.specs.Moment.{connection_of}
use Rattle.hips_http.specs.SessionRun.{room_of}
use Rattle.hips_http.specs.Readings.{NeedsNext}
use Rattle.http_frame.proofs.ReadLemmas.{reads_none}
use Rattle.hips_http.proofs.InOrder.{order_from, order_at, served_from, reads_from, no_order}
use Rattle.hips_http.proofs.Whole.{no_memory_served, no_memory_goes, goes_from}
use Rattle.hips_http.proofs.connection.session_in.Goals as goal

pub returns-in-Some-clause-goes : goal.returns-in-Some-clause-goes
returns-in-Some-clause-goes g c =
    let new = c.answer_all-end.new.connection in
    let goes = goes_from (g.B.Board.content c.args.board.now) (g.B.Board.content c.release.new.self) (g.B.Board.content new.board.now) c.release.ensures c.answer_all-end.ensures.serves.goes in
    search rules

pub returns-in-Some-clause-order : goal.returns-in-Some-clause-order
returns-in-Some-clause-order g c =
    let new = c.answer_all-end.new.connection in
    let order = order_from g.S.Source (g.B.Board.content c.args.board.now) (g.B.Board.content c.release.new.self) (g.B.Board.content new.board.now) (g.S.Source.left c.args.src.now)
    (connection_of g.S.Source g.K.Sink c.args.src.now c.args.sink.now) (connection_of g.S.Source g.K.Sink new.src.now new.sink.now)
    c.args.steps.now new.steps.now (record { end = c.answer_all-end.result; memory_faults = new.memory_faults }) c.args.src.now new.src.now c.release.ensures c.answer_all-end.ensures.order in
    order_at g.S.Source g.K.Sink g.B.Board.content _ _ _ _ _ _ new.board.now _ new.src.now _ new.sink.now _ new.steps.now _ (search rules) (search rules) (search rules) (search rules) order

pub returns-in-Some-clause-served : goal.returns-in-Some-clause-served
returns-in-Some-clause-served g c =
    let new = c.answer_all-end.new.connection in
    let served = served_from g.S.Source (g.B.Board.content c.args.board.now) (g.B.Board.content c.release.new.self) (g.B.Board.content new.board.now) (g.S.Source.left c.args.src.now)
    (connection_of g.S.Source g.K.Sink c.args.src.now c.args.sink.now) (connection_of g.S.Source g.K.Sink new.src.now new.sink.now)
    c.args.steps.now new.steps.now (record { end = c.answer_all-end.result; memory_faults = new.memory_faults }) c.args.src.now new.src.now c.release.ensures c.answer_all-end.ensures.order in
    search rules

pub returns-in-Some-clause-reads : goal.returns-in-Some-clause-reads
returns-in-Some-clause-reads g c =
    let new = c.answer_all-end.new.connection in
    let reads = reads_from g.S.Source (g.B.Board.content c.args.board.now) (g.B.Board.content c.release.new.self) (g.B.Board.content new.board.now) (g.S.Source.left c.args.src.now)
    (connection_of g.S.Source g.K.Sink c.args.src.now c.args.sink.now) (connection_of g.S.Source g.K.Sink new.src.now new.sink.now)
    c.args.steps.now new.steps.now (record { end = c.answer_all-end.result; memory_faults = new.memory_faults }) c.args.src.now new.src.now c.release.ensures c.answer_all-end.ensures.order in
    search rules

pub returns-in-None-clause-goes : goal.returns-in-None-clause-goes
returns-in-None-clause-goes g c = no_memory_goes _ _ c.last-legal.ensures.legal c.last-legal.ensures.owned c.release.ensures

pub returns-in-None-clause-served : goal.returns-in-None-clause-served
returns-in-None-clause-served g c = no_memory_served _ _ _ (connection_of g.S.Source g.K.Sink c.args.src.now c.args.sink.now) _ c.last-legal.ensures.legal c.release.ensures refl

pub returns-in-None-clause-reads : goal.returns-in-None-clause-reads
returns-in-None-clause-reads g c = λ _.
    ([], reads_none g.S.Source.left g.S.Source.readings (NeedsNext (room_of (g.B.Board.content c.args.board.now).conf)) [] c.args.src.now)

pub returns-in-None-clause-order : goal.returns-in-None-clause-order
returns-in-None-clause-order g c =
    no_order g.S.Source _ _ (g.S.Source.left c.args.src.now) (connection_of g.S.Source g.K.Sink c.args.src.now c.args.sink.now) c.args.steps.now _ c.args.src.now (returns-in-None-clause-served g c)
