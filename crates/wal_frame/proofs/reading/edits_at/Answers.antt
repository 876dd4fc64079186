use Rattle.std.proofs.Common.{◌≡◌, ◌++◌, ◌∷◌, []}
use Rattle.std.specs.Prelude.{map}
use Rattle.std.proofs.lemmas.Result.{err_from_is_err_and}
use Rattle.std.proofs.lemmas.List.{map_push}
use Rattle.edit_journal.specs.Edit.{edit_of}
use Rattle.wal_frame.specs.Payload.{edits_at}
use Rattle.wal_frame.proofs.Loops.{goes_on, ends, is_done}
use Rattle.wal_frame.proofs.reading.edits_at.Goals as goal

pub returns-in_err-edit : goal.returns-in_err-edit
returns-in_err-edit c =
    let p = err_from_is_err_and c.from_residual.result c.from_residual.ensures.1 in
    rw (p.1, p.2) (ends c.args.shape c.in_err-edit.field-0.0 (map edit_of c.loop.edits.items) c.args.count c.loop.counter c.loop.rest.now (edits_at c.args.shape c.args.count c.args.bytes.now) c.loop-test.true c.in_err-edit.ensures c.loop.invariant)

pub loop-preserved : goal.loop-preserved
loop-preserved c =
    let edit = c.in_ok-edit.edit in
    let e : map edit_of c.push.new.self.items ≡ map edit_of c.loop.edits.items ++ edit_of edit ∷ [] = rw c.in_ok-push.ensures.items (map_push _ c.loop.edits.items edit) in
    rw e (goes_on c.args.shape (map edit_of c.loop.edits.items) c.args.count c.loop.counter c.loop.rest.now (edit_of edit) c.in_ok-edit.after.now (edits_at c.args.shape c.args.count c.args.bytes.now) c.loop-test.true c.in_ok-edit.ensures c.loop.invariant)

pub returns : goal.returns
returns c = is_done c.args.shape (map edit_of c.loop.edits.items) c.args.count c.loop.counter c.loop.rest.now (edits_at c.args.shape c.args.count c.args.bytes.now) c.loop-test.false c.loop.invariant
