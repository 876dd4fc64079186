use Rattle.std.proofs.Common.{◌≡◌, ◌≤◌, ◌<◌, ◌*◌, ◌/◌, ◌%◌, ◌-◌, length, Some, None, sym, ap, ◌∙◌, arith}
use Rattle.std.specs.Prelude.{slice_get, vec_len}
use Rattle.std.specs.Arc.{arc_value}
use Rattle.edit_journal.specs.Chunks.{chunk_notes}
use Rattle.edit_journal.proofs.ChunkLemmas.{get_in_chunk, get_in_last}
use Rattle.edit_journal.proofs.KeptLemmas.{item_get}
use Rattle.edit_journal.proofs.notes.Notes.get.Goals as goal

pub returns-in-Some : goal.returns-in-Some
returns-in-Some c =
    let chunks_are : c.deref-2.result.now ≡ (arc_value c.self.inside.full).items = c.deref-2.ensures.value ∙ ap (λ v. v.items) c.deref.ensures in
    let chunk : slice_get (arc_value c.self.inside.full).items (c.args.i / 64) ≡ Some c.in-Some.chunk.now =
    ap (λ xs. slice_get xs (c.args.i / 64)) (sym chunks_are) ∙ sym (item_get c.deref-2.result.now (c.args.i / 64) (Some c.in-Some.chunk) c.in-Some.ensures.lookup) in
    let notes_are : c.deref-in-Some-2.result.now ≡ chunk_notes c.in-Some.chunk.now = c.deref-in-Some-2.ensures.value ∙ ap (λ v. v.items) c.deref-in-Some.ensures in
    item_get c.deref-in-Some-2.result.now (c.args.i % 64) c.get-in-Some.result c.get-in-Some.ensures.lookup
    ∙ ap (λ xs. slice_get xs (c.args.i % 64)) notes_are
    ∙ sym (get_in_chunk (arc_value c.self.inside.full).items c.self.inside.last.items c.args.i c.in-Some.chunk.now c.self.invariant.full chunk)
    ∙ ap (λ xs. slice_get xs c.args.i) c.self.view_is

pub returns-in-None : goal.returns-in-None
returns-in-None c =
    let chunks_are : c.deref-2.result.now ≡ (arc_value c.self.inside.full).items = c.deref-2.ensures.value ∙ ap (λ v. v.items) c.deref.ensures in
    let past : length c.deref-2.result.now ≤ c.args.i / 64 = c.in-None.ensures.lookup.3 in
    let same : length c.deref-2.result.now ≡ length (arc_value c.self.inside.full).items = ap length chunks_are in
    let count : c.len.result ≡ length (arc_value c.self.inside.full).items = c.len.ensures ∙ ap (λ v. vec_len v) c.deref-in-None-2.ensures ∙ (arc_value c.self.inside.full).ok.0 in
    item_get c.deref-in-None.result.now (c.args.i - c.len.result * 64) c.get-in-None.result c.get-in-None.ensures.lookup
    ∙ ap (λ xs. slice_get xs (c.args.i - c.len.result * 64)) c.deref-in-None.ensures.value
    ∙ ap (λ n. slice_get c.self.inside.last.items (c.args.i - n * 64)) count
    ∙ sym (get_in_last (arc_value c.self.inside.full).items c.self.inside.last.items c.args.i c.self.invariant.full (omega arith))
    ∙ ap (λ xs. slice_get xs c.args.i) c.self.view_is
