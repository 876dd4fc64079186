use Rattle.std.proofs.Common.{◌≡◌, ◌++◌, [], ◌∷◌, length, sym, ap, ◌∙◌, subst, arith}
use Rattle.std.specs.Arc.{arc_value}
use Rattle.std.proofs.lemmas.List.Elements.{All-append, All-cons}
use Rattle.edit_journal.specs.Chunks.{chunk_notes, notes_in, AreFull}
use Rattle.edit_journal.proofs.ChunkLemmas.{one_chunk_more, shared_chunks, shared_full}
use Rattle.edit_journal.proofs.notes.with_chunk.Goals as goal

pub returns-clause-notes : goal.returns-clause-notes
returns-clause-notes c =
    let list_is : (arc_value c.in_ok-new-2.field-0).items ≡ c.in_ok-all.all.items ++ c.in_ok-new.field-0 ∷ [] = ap (λ v. v.items) c.in_ok-new-2.ensures.ok ∙ c.in_ok-push.ensures.items in
    ap notes_in list_is ∙ one_chunk_more c.in_ok-all.all.items c.in_ok-new.field-0
    ∙ ap (λ xs. xs ++ chunk_notes c.in_ok-new.field-0) (shared_chunks c.args.chunks.now.items c.in_ok-all.all.items c.in_ok-all.ensures.cases.0)
    ∙ ap (λ v. notes_in c.args.chunks.now.items ++ v.items) c.in_ok-new.ensures.ok

pub returns-clause-full : goal.returns-clause-full
returns-clause-full c = λ full long.
    let list_is : (arc_value c.in_ok-new-2.field-0).items ≡ c.in_ok-all.all.items ++ c.in_ok-new.field-0 ∷ [] = ap (λ v. v.items) c.in_ok-new-2.ensures.ok ∙ c.in_ok-push.ensures.items in
    let last : length (chunk_notes c.in_ok-new.field-0) ≡ 64 = ap (λ v. length v.items) c.in_ok-new.ensures.ok ∙ long in
    let all : AreFull (c.in_ok-all.all.items ++ c.in_ok-new.field-0 ∷ []) =
    All-append (λ chunk. length (chunk_notes chunk) ≡ 64) c.in_ok-all.all.items (c.in_ok-new.field-0 ∷ [])
    (shared_full c.args.chunks.now.items c.in_ok-all.all.items c.in_ok-all.ensures.cases.0 full)
    (All-cons (λ chunk. length (chunk_notes chunk) ≡ 64) c.in_ok-new.field-0 [] last (λ k d h. absurd (omega arith))) in
    subst AreFull (sym list_is) all
