use Rattle.std.proofs.Common.{◌≡◌, ◌++◌, ℕ, List, subst, sym, ◌∙◌, refl, arith, rules}
use Rattle.hips_http.specs.declared.served.SessionEnd.TheVariants.{WriteFault}
use Rattle.std.specs.Prelude.{option_copied}
use Rattle.std.specs.Io.KnownBytes.{Appends}
use Rattle.survey_link.specs.Link.{AppendsPrefix, parts_bytes}
use Rattle.survey_core.specs.State.{survey_state}
use Rattle.hips_http.specs.Replies.{file_answer}
use Rattle.hips_http.proofs.FileLemmas.{file_found, reply_is, shown_serves}
use Rattle.hips_http.proofs.Points.{wants_found}
use Rattle.hips_http.proofs.Steps.{stop_counts, body_reads, takes_body, leaves_no_body}
use Rattle.hips_http.proofs.step.answer_file.Goals as goal

pub returns-in-Err-clause-serves : goal.returns-in-Err-clause-serves
returns-in-Err-clause-serves g c =
    let ended = c.body_end.ensures in
    let e = c.in-Err.ensures in
    record {
      ok = tt;
      broken = λ is. let wrote : c.body_end.result ≡ WriteFault = cc in absurd (body_reads c.in-Err.stop (sym ended ∙ wrote));
      halted = λ _. record { stop = c.in-Err.stop; leaves = leaves_no_body _ _ _ _ c.requires.turn (search rules); end_is = ended; untouched = record { board = refl; steps_are = refl; wants_are = refl }; written_is = refl };
      hands = record { flushed = tt; stays = refl; unwritten = λ _. refl };
      faults = rw ended (stop_counts c.in-Err.stop _ _ _ (e.faults _ c.requires.turn));
      never_falls = record { source = e.never_falls; sink = omega arith; steps = omega arith; memory_faults = omega arith; room = search rules };
    }

pub returns-in-Ok-sent-clause-serves : goal.returns-in-Ok-sent-clause-serves
returns-in-Ok-sent-clause-serves g c =
    let connection = c.args.connection.now in
    let b = c.in-Ok.ensures in
    let body = c.in-Ok.field-0.now in
    let e = c.in-Ok-sent.ensures in
    let state = c.shown.result.now in
    let told = option_copied c.path-path.result in
    let path : connection.frame.now.path ≡ told = search rules in
    let answer = file_answer state.conf state.opening (survey_state state) told in
    let serves = shown_serves (record { asked = c.args.due.now.request; path = connection.frame.now.path; body = body }) c.args.file.now told path connection.steps.now
    (g.B.Board.content connection.board.now) (g.B.Board.content c.look.new.board) state c.last-legal.ensures.legal c.last-legal.ensures.owned c.look.ensures c.shown.ensures in
    let reply = c.file_reply-reply in
    let bytes = reply_is c.args.due.now.close c.args.due.now.request answer reply.result.head (reply.result.front.now ++ reply.result.kept.now ++ reply.result.zeros.now) (parts_bytes c.sent_parts-body.result) (reply.ensures.answer told (rw path at c.requires.file)) c.sent_parts-body.ensures in
    let memory_faults = sym (wants_found connection.memory_faults answer (file_found state.conf state.opening (survey_state state) told)) in
    record {
      ok = (answer, record { body = body; takes = takes_body _ _ _ _ c.requires.turn (search rules) (b.length _ c.requires.turn); serves = serves; memory_faults_is = memory_faults }, subst (λ (bytes : List ℕ). Appends (g.K.Sink.held connection.sink.now) (g.K.Sink.held c.write_reply_parts-sent.new.sink) bytes) bytes e.whole);
      broken = λ is. absurd (cc);
      halted = tt;
      hands = record { flushed = e.flushed; stays = tt; unwritten = tt };
      faults = (b.faults _ c.requires.turn, e.faults);
      never_falls = record { source = b.never_falls; sink = e.never_falls; steps = omega arith; memory_faults = omega arith; room = search rules };
    }

pub returns-in-Err-sent-clause-serves : goal.returns-in-Err-sent-clause-serves
returns-in-Err-sent-clause-serves g c =
    let connection = c.args.connection.now in
    let b = c.in-Ok.ensures in
    let body = c.in-Ok.field-0.now in
    let e = c.in-Err-sent.ensures in
    let state = c.shown.result.now in
    let told = option_copied c.path-path.result in
    let path : connection.frame.now.path ≡ told = search rules in
    let answer = file_answer state.conf state.opening (survey_state state) told in
    let serves = shown_serves (record { asked = c.args.due.now.request; path = connection.frame.now.path; body = body }) c.args.file.now told path connection.steps.now
    (g.B.Board.content connection.board.now) (g.B.Board.content c.look.new.board) state c.last-legal.ensures.legal c.last-legal.ensures.owned c.look.ensures c.shown.ensures in
    let reply = c.file_reply-reply in
    let bytes = reply_is c.args.due.now.close c.args.due.now.request answer reply.result.head (reply.result.front.now ++ reply.result.kept.now ++ reply.result.zeros.now) (parts_bytes c.sent_parts-body.result) (reply.ensures.answer told (rw path at c.requires.file)) c.sent_parts-body.ensures in
    let memory_faults = sym (wants_found connection.memory_faults answer (file_found state.conf state.opening (survey_state state) told)) in
    record {
      ok = tt;
      broken = λ _. (answer, record { body = body; takes = takes_body _ _ _ _ c.requires.turn (search rules) (b.length _ c.requires.turn); serves = serves; memory_faults_is = memory_faults }, subst (λ (bytes : List ℕ). AppendsPrefix (g.K.Sink.held connection.sink.now) (g.K.Sink.held c.write_reply_parts-sent.new.sink) bytes) bytes e.part);
      halted = λ other. absurd (other refl);
      hands = record { flushed = tt; stays = e.stays; unwritten = λ other. absurd (other refl) };
      faults = (record { read = b.faults _ c.requires.turn; write = e.faults }, λ is. cc);
      never_falls = record { source = b.never_falls; sink = e.never_falls; steps = omega arith; memory_faults = omega arith; room = search rules };
    }
