use Rattle.std.proofs.Common.{◌≡◌, sym, ap, ◌∙◌, inr}
use Rattle.std.specs.Arc.{arc_value}
use Rattle.edit_journal.specs.Edit.{edit_of}
use Rattle.reader_pin.specs.Board.{last_seen, edit_count}
use Rattle.hips_http.specs.declared.call.Call.TheVariants as call
use Rattle.hips_http.specs.Verdict.{unmet}
use Rattle.hips_http.specs.Replies.{refused_answer}
use Rattle.hips_http.proofs.Calls.{no_memory_serves}
use Rattle.hips_http.proofs.Changes.{stays_itself, put_unread, put_unmet, put_refused, put_accepted}
use Rattle.hips_http.proofs.change.put.Goals as goal

pub returns-in-Err-Fault-clause-serves : goal.returns-in-Err-Fault-clause-serves
returns-in-Err-Fault-clause-serves g c = λ path.
    let refusal = rw (c.in-Err-Fault.field-0-is, c.last.ensures.last) at c.in-Err-Fault.ensures.refused in
    rw c.tile_refused.ensures (put_unread _ _ _ _ c.args.request.now path c.args.body.now c.args.leaf c.in-Err-Fault.ensures.at_most _ (stays_itself _ c.last.ensures.legal c.last.ensures.owned) refusal)

pub returns-in-Err-OutOfMemory-clause-serves : goal.returns-in-Err-OutOfMemory-clause-serves
returns-in-Err-OutOfMemory-clause-serves g c = λ path.
    rw c.no_memory.ensures (no_memory_serves _ _ _ _ (call.Put c.args.leaf) (stays_itself _ c.last.ensures.legal c.last.ensures.owned) _ (λ before after none. inr none))

pub returns-in-None-clause-serves : goal.returns-in-None-clause-serves
returns-in-None-clause-serves g c = λ path.
    let board = g.B.Board.content c.args.board.now in
    let numbers = rw c.last.ensures.last at c.in-Ok.ensures.numbers in
    let fits = rw c.last.ensures.last at c.in-Ok.ensures.fits in
    let count : c.edits.result ≡ edit_count (last_seen board) = rw c.last-in-None.ensures.last at c.edits.ensures.count in
    let told : c.unmet.result ≡ refused_answer (edit_count (last_seen board)) unmet = c.unmet.ensures ∙ ap (λ n. refused_answer n unmet) count in
    rw told (put_unmet _ _ _ _ c.args.request.now path c.args.body.now c.args.leaf c.in-Ok.ensures.at_most (arc_value c.in-Ok.tile) numbers fits
    (stays_itself _ c.last.ensures.legal c.last.ensures.owned) (sym c.in-None.ensures))

pub returns-in-Ok-edit-clause-serves : goal.returns-in-Ok-edit-clause-serves
returns-in-Ok-edit-clause-serves g c = λ path.
    let numbers = rw c.last.ensures.last at c.in-Ok.ensures.numbers in
    let fits = rw c.last.ensures.last at c.in-Ok.ensures.fits in
    rw c.edited.ensures (put_accepted _ _ _ _ c.args.request.now path c.args.body.now c.args.leaf c.in-Ok.ensures.at_most (arc_value c.in-Ok.tile) numbers fits
    (edit_of c.in-Some.edit) (sym c.in-Some.ensures) c.in-Ok-edit.accepted c.in-Ok-edit.ensures.accepted)

pub returns-in-Err-Fault-edit-clause-serves : goal.returns-in-Err-Fault-edit-clause-serves
returns-in-Err-Fault-edit-clause-serves g c = λ path.
    let numbers = rw c.last.ensures.last at c.in-Ok.ensures.numbers in
    let fits = rw c.last.ensures.last at c.in-Ok.ensures.fits in
    let refusal = rw c.in-Err-Fault-edit.field-0-is at c.in-Err-Fault-edit.ensures.refused in
    rw c.edit_refused.ensures (put_refused _ _ _ _ c.args.request.now path c.args.body.now c.args.leaf c.in-Ok.ensures.at_most (arc_value c.in-Ok.tile) numbers fits
    (edit_of c.in-Some.edit) (sym c.in-Some.ensures) _ _ c.in-Err-Fault-edit.ensures.unchanged refusal)

pub returns-in-Err-OutOfMemory-edit-clause-serves : goal.returns-in-Err-OutOfMemory-edit-clause-serves
returns-in-Err-OutOfMemory-edit-clause-serves g c = λ path.
    rw c.no_memory-in-Err-OutOfMemory-edit.ensures (no_memory_serves _ _ _ _ (call.Put c.args.leaf) c.in-Err-OutOfMemory-edit.ensures.unchanged _ (λ before after none. inr none))
