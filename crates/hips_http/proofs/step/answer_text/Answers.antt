use Rattle.std.proofs.Common.{◌≡◌, sym, ◌∙◌, refl, arith, rules}
use Rattle.hips_http.specs.declared.served.SessionEnd.TheVariants.{WriteFault}
use Rattle.hips_http.proofs.Steps.{stop_counts, body_reads, takes_body, leaves_no_body}
use Rattle.hips_http.proofs.step.answer_text.Goals as goal

pub returns-in-Err-clause-serves : goal.returns-in-Err-clause-serves
returns-in-Err-clause-serves g c =
    let ended = c.body_end.ensures in
    let e = c.in-Err.ensures in
    record {
      ok = tt;
      broken = λ is. let wrote : c.body_end.result ≡ WriteFault = cc in absurd (body_reads c.in-Err.stop (sym ended ∙ wrote));
      halted = λ _. record { stop = c.in-Err.stop; leaves = leaves_no_body _ _ _ _ c.requires.turn (search rules); end_is = ended; untouched = record { board = refl; steps_are = refl; wants_are = refl }; written_is = refl };
      hands = record { flushed = tt; stays = refl; unwritten = λ _. refl };
      faults = rw ended (stop_counts c.in-Err.stop _ _ _ (e.faults _ c.requires.turn));
      never_falls = record { source = e.never_falls; sink = omega arith; steps = omega arith; memory_faults = omega arith; room = search rules };
    }

pub returns-in-Ok-send_text-clause-serves : goal.returns-in-Ok-send_text-clause-serves
returns-in-Ok-send_text-clause-serves g c =
    let b = c.in-Ok.ensures in
    let e = c.in-Ok-send_text.ensures in
    record {
      ok = (c.answer-reply.result, record { body = c.in-Ok.body.now; takes = takes_body _ _ _ _ c.requires.turn (search rules) (b.length _ c.requires.turn); serves = c.answer-reply.ensures.serves c.args.connection.now.frame.now.path; memory_faults_is = c.count_memory_fault-connection.ensures.counted }, e.sends.whole);
      broken = λ is. absurd (cc);
      halted = tt;
      hands = record { flushed = e.hands.flushed; stays = tt; unwritten = tt };
      faults = (b.faults _ c.requires.turn, e.hands.faults);
      never_falls = record { source = b.never_falls; sink = e.hands.never_falls; steps = c.answer-reply.ensures.never_falls; memory_faults = c.count_memory_fault-connection.ensures.one; room = search rules };
    }

pub returns-in-Err-send_text-clause-serves : goal.returns-in-Err-send_text-clause-serves
returns-in-Err-send_text-clause-serves g c =
    let b = c.in-Ok.ensures in
    let e = c.in-Err-send_text.ensures in
    record {
      ok = tt;
      broken = λ _. (c.answer-reply.result, record { body = c.in-Ok.body.now; takes = takes_body _ _ _ _ c.requires.turn (search rules) (b.length _ c.requires.turn); serves = c.answer-reply.ensures.serves c.args.connection.now.frame.now.path; memory_faults_is = c.count_memory_fault-connection.ensures.counted }, e.sends.part);
      halted = λ other. absurd (other refl);
      hands = record { flushed = tt; stays = e.hands.stays; unwritten = λ other. absurd (other refl) };
      faults = (record { read = b.faults _ c.requires.turn; write = e.hands.faults }, λ is. cc);
      never_falls = record { source = b.never_falls; sink = e.hands.never_falls; steps = c.answer-reply.ensures.never_falls; memory_faults = c.count_memory_fault-connection.ensures.one; room = search rules };
    }
