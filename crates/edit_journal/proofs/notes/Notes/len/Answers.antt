use Rattle.std.proofs.Common.{◌≡◌, ◌+◌, ◌*◌, length, sym, ap, ◌∙◌, arith}
use Rattle.std.specs.Arc.{arc_value}
use Rattle.std.specs.Prelude.{vec_len, ◌++◌}
use Rattle.edit_journal.specs.Chunks.{notes_in}
use Rattle.edit_journal.proofs.KeptLemmas.{length-chunked}
use Rattle.edit_journal.proofs.notes.Notes.len.Goals as goal

pub overflow_mul-result : goal.overflow_mul-result
overflow_mul-result c =
    let chunks : c.len.result ≡ length (arc_value c.self.inside.full).items = c.len.ensures ∙ ap (λ v. vec_len v) c.deref.ensures ∙ (arc_value c.self.inside.full).ok.0 in
    omega (arith, c.self.invariant.few)

pub overflow_add-result : goal.overflow_add-result
overflow_add-result c =
    let chunks : c.len.result ≡ length (arc_value c.self.inside.full).items = c.len.ensures ∙ ap (λ v. vec_len v) c.deref.ensures ∙ (arc_value c.self.inside.full).ok.0 in
    let last : c.len-2.result ≡ length c.self.inside.last.items = c.len-2.ensures ∙ c.self.inside.last.ok.0 in
    omega (arith, c.self.invariant.few, c.self.invariant.short)

pub returns : goal.returns
returns c =
    let chunks : c.len.result ≡ length (arc_value c.self.inside.full).items = c.len.ensures ∙ ap (λ v. vec_len v) c.deref.ensures ∙ (arc_value c.self.inside.full).ok.0 in
    let last : c.len-2.result ≡ length c.self.inside.last.items = c.len-2.ensures ∙ c.self.inside.last.ok.0 in
    let all : length (notes_in (arc_value c.self.inside.full).items ++ c.self.inside.last.items) ≡ length (arc_value c.self.inside.full).items * 64 + length c.self.inside.last.items =
    length-chunked (arc_value c.self.inside.full).items c.self.inside.last.items c.self.invariant in
    let seen : length (notes_in (arc_value c.self.inside.full).items ++ c.self.inside.last.items) ≡ length c.args.self.now = ap length c.self.view_is in
    omega arith
