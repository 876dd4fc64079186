use Rattle.std.proofs.Common.{◌≡◌, inr, [], refl, arith}
use Rattle.hips_http.specs.declared.call.Call.TheVariants as call
use Rattle.hips_http.specs.declared.served.SessionEnd.TheVariants.{WriteFault}
use Rattle.hips_http.specs.Moment.{input_at, output_at, moment_of}
use Rattle.hips_http.proofs.OneRequest.{call_served, call_stopped, text_of}
use Rattle.hips_http.proofs.ReadRequests.{head_reads, reads_request, reads_stopped}
use Rattle.hips_http.proofs.Steps.{head_stops, stop_counts, leave_stops, kept_part, head_part}
use Rattle.hips_http.proofs.step.answer_next.Goals as goal

pub returns-in-Err-clause-serves : goal.returns-in-Err-clause-serves
returns-in-Err-clause-serves g c =
    let connection = c.args.connection.now in
    let old = moment_of g.S.Source g.K.Sink g.B.Board.content connection in
    let input = input_at g.S.Source c.next_call.new.frame c.next_call.new.src in
    let output = output_at g.K.Sink c.end_at.new.sink in
    let e = c.end_at.ensures in
    record {
      ok = tt;
      stops = head_stops c.args.count old input output c.in-Err.stop c.end_at.result c.requires.room c.in-Err.ensures.stop c.in-Err.ensures.kept e.ends;
      left = kept_part connection.frame.now c.next_call.new.frame (g.S.Source.left connection.src.now) (g.S.Source.left c.next_call.new.src) c.in-Err.ensures.kept;
      turn = tt;
      hands = record {
        flushed = tt;
        flushes = e.flushed;
        breaks = λ is. let ended : c.end_at.result ≡ WriteFault = cc in ([], inr (e.stays ended, refl));
      };
      faults = (record { read = rw e.read_fault (stop_counts c.in-Err.stop _ _ 0 c.in-Err.ensures.faults).0.read; write = e.faults }, e.memory);
      never_falls = record { source = c.in-Err.ensures.never_falls; sink = e.never_falls; steps = omega arith; memory_faults = omega arith; room = c.in-Err.ensures.room };
    }

pub returns-in-Err-grant-clause-serves : goal.returns-in-Err-grant-clause-serves
returns-in-Err-grant-clause-serves g c =
    let old = moment_of g.S.Source g.K.Sink g.B.Board.content c.args.connection.now in
    let input = input_at g.S.Source c.next_call.new.frame c.next_call.new.src in
    let output = output_at g.K.Sink c.grant.new.sink in
    let e = c.in-Err-grant.ensures in
    record {
      ok = tt;
      stops = leave_stops c.args.count c.args.top old input output c.in-Ok.next.0 c.in-Ok.next.1 c.requires.room c.in-Ok.ensures.read e.waits e.part;
      left = head_part c.args.top old.input input c.in-Ok.next.0 c.in-Ok.next.1 c.in-Ok.ensures.read;
      turn = tt;
      hands = record { flushed = tt; flushes = λ other. absurd (other refl); breaks = λ _. ([], inr (e.stays, refl)) };
      faults = (record { read = c.in-Ok.ensures.faults; write = e.faults }, λ is. cc);
      never_falls = record { source = c.in-Ok.ensures.never_falls; sink = e.never_falls; steps = omega arith; memory_faults = omega arith; room = c.in-Ok.ensures.room };
    }

pub returns-in-Ok-answer_file-clause-serves : goal.returns-in-Ok-answer_file-clause-serves
returns-in-Ok-answer_file-clause-serves g c =
    let at = moment_of g.S.Source g.K.Sink g.B.Board.content in
    let leave = c.in-Ok-grant.ensures in
    call_served c.args.count c.args.top (at c.args.connection.now) (input_at g.S.Source c.next_call.new.frame c.next_call.new.src) (output_at g.K.Sink c.grant.new.sink) c.in-Ok.next.0 (call.File c.in-File.file)
    c.requires.room (rw c.in-File.is at c.in-Ok.ensures.read) (at c.answer_file.new.connection) leave.whole c.requires.top c.closes.result c.closes.ensures leave.flushed c.in-Ok.ensures.faults leave.faults
    c.in-Ok.ensures.room c.in-Ok-answer_file.ensures.serves

pub returns-in-Err-answer_file-clause-serves : goal.returns-in-Err-answer_file-clause-serves
returns-in-Err-answer_file-clause-serves g c =
    let at = moment_of g.S.Source g.K.Sink g.B.Board.content in
    let leave = c.in-Ok-grant.ensures in
    call_stopped c.args.count c.args.top (at c.args.connection.now) (input_at g.S.Source c.next_call.new.frame c.next_call.new.src) (output_at g.K.Sink c.grant.new.sink) c.in-Ok.next.0 (call.File c.in-File.file)
    c.requires.room (rw c.in-File.is at c.in-Ok.ensures.read) (at c.answer_file.new.connection) leave.whole c.requires.top c.closes.result c.closes.ensures leave.flushed c.in-Ok.ensures.faults leave.faults
    c.in-Ok.ensures.room c.in-Err-answer_file.end c.in-Err-answer_file.ensures.serves

pub answer_text-requires-clause-text : goal.answer_text-requires-clause-text
answer_text-requires-clause-text g c = λ _ _. text_of c.in-Ok.next.1 c.in_default.not-File

pub returns-in-Ok-answer_text-clause-serves : goal.returns-in-Ok-answer_text-clause-serves
returns-in-Ok-answer_text-clause-serves g c =
    let at = moment_of g.S.Source g.K.Sink g.B.Board.content in
    let leave = c.in-Ok-grant.ensures in
    call_served c.args.count c.args.top (at c.args.connection.now) (input_at g.S.Source c.next_call.new.frame c.next_call.new.src) (output_at g.K.Sink c.grant.new.sink) c.in-Ok.next.0 c.in-Ok.next.1
    c.requires.room c.in-Ok.ensures.read (at c.answer_text.new.connection) leave.whole c.requires.top c.closes.result c.closes.ensures leave.flushed c.in-Ok.ensures.faults leave.faults
    c.in-Ok.ensures.room c.in-Ok-answer_text.ensures.serves

pub returns-in-Err-answer_text-clause-serves : goal.returns-in-Err-answer_text-clause-serves
returns-in-Err-answer_text-clause-serves g c =
    let at = moment_of g.S.Source g.K.Sink g.B.Board.content in
    let leave = c.in-Ok-grant.ensures in
    call_stopped c.args.count c.args.top (at c.args.connection.now) (input_at g.S.Source c.next_call.new.frame c.next_call.new.src) (output_at g.K.Sink c.grant.new.sink) c.in-Ok.next.0 c.in-Ok.next.1
    c.requires.room c.in-Ok.ensures.read (at c.answer_text.new.connection) leave.whole c.requires.top c.closes.result c.closes.ensures leave.flushed c.in-Ok.ensures.faults leave.faults
    c.in-Ok.ensures.room c.in-Err-answer_text.end c.in-Err-answer_text.ensures.serves

-- ---- what was read

pub returns-in-Err-clause-reads : goal.returns-in-Err-clause-reads
returns-in-Err-clause-reads g c = λ some.
    let connection = c.args.connection.now in
    let head = c.in-Err.ensures.needed in
    (head.0, head_reads g.S.Source.left g.S.Source.readings connection.frame.now.room connection.frame.now.held head.0 connection.src.now c.next_call.new.src head.1, tt)

pub returns-in-Err-grant-clause-reads : goal.returns-in-Err-grant-clause-reads
returns-in-Err-grant-clause-reads g c = λ some.
    let connection = c.args.connection.now in
    let head = c.in-Ok.ensures.needed in
    (head.0, head_reads g.S.Source.left g.S.Source.readings connection.frame.now.room connection.frame.now.held head.0 connection.src.now c.next_call.new.src head.1, tt)

pub returns-in-Ok-answer_file-clause-reads : goal.returns-in-Ok-answer_file-clause-reads
returns-in-Ok-answer_file-clause-reads g c = λ some.
    let connection = c.args.connection.now in
    let new = c.answer_file.new.connection in
    let head = c.in-Ok.ensures.needed in
    let body = c.in-Ok-answer_file.ensures.needed in
    let r = c.in-Ok-answer_file.ensures.serves.ok in
    reads_request g.S.Source.left g.S.Source.readings connection.frame.now.room connection.frame.now.held head.0 c.next_call.new.frame.held connection.src.now c.next_call.new.src new.src.now
    c.in-Ok.next.0 c.next_call.new.frame.path head.1 head.2 body.0 body.1 r.1.body new.frame.now.held some r.1.takes.count_is r.1.takes.bytes

pub returns-in-Err-answer_file-clause-reads : goal.returns-in-Err-answer_file-clause-reads
returns-in-Err-answer_file-clause-reads g c = λ some.
    let connection = c.args.connection.now in
    let new = c.answer_file.new.connection in
    let head = c.in-Ok.ensures.needed in
    let body = c.in-Err-answer_file.ensures.needed in
    reads_stopped g.S.Source.left g.S.Source.readings connection.frame.now.room connection.frame.now.held head.0 c.next_call.new.frame.held connection.src.now c.next_call.new.src new.src.now
    c.in-Ok.next.0 c.next_call.new.frame.path head.1 head.2 body.0 body.1 new.frame.now.held c.in-Err-answer_file.end

pub returns-in-Ok-answer_text-clause-reads : goal.returns-in-Ok-answer_text-clause-reads
returns-in-Ok-answer_text-clause-reads g c = λ some.
    let connection = c.args.connection.now in
    let new = c.answer_text.new.connection in
    let head = c.in-Ok.ensures.needed in
    let body = c.in-Ok-answer_text.ensures.needed in
    let r = c.in-Ok-answer_text.ensures.serves.ok in
    reads_request g.S.Source.left g.S.Source.readings connection.frame.now.room connection.frame.now.held head.0 c.next_call.new.frame.held connection.src.now c.next_call.new.src new.src.now
    c.in-Ok.next.0 c.next_call.new.frame.path head.1 head.2 body.0 body.1 r.1.body new.frame.now.held some r.1.takes.count_is r.1.takes.bytes

pub returns-in-Err-answer_text-clause-reads : goal.returns-in-Err-answer_text-clause-reads
returns-in-Err-answer_text-clause-reads g c = λ some.
    let connection = c.args.connection.now in
    let new = c.answer_text.new.connection in
    let head = c.in-Ok.ensures.needed in
    let body = c.in-Err-answer_text.ensures.needed in
    reads_stopped g.S.Source.left g.S.Source.readings connection.frame.now.room connection.frame.now.held head.0 c.next_call.new.frame.held connection.src.now c.next_call.new.src new.src.now
    c.in-Ok.next.0 c.next_call.new.frame.path head.1 head.2 body.0 body.1 new.frame.now.held c.in-Err-answer_text.end
