use Rattle.std.proofs.Common.{◌≡◌, ◌≤◌, ◌+◌, ◌*◌, ◌++◌, length, sym, ap, ◌∙◌, subst, arith}
use Rattle.std.specs.Prelude.{vec_len}
use Rattle.std.specs.Arc.{arc_value}
use Rattle.edit_journal.specs.Chunks.{notes_in, AreFull}
use Rattle.edit_journal.proofs.KeptLemmas.{length-chunked}
use Rattle.edit_journal.proofs.notes.Notes.with.Goals as goal

pub invariant_of-result-2 : goal.invariant_of-result-2
invariant_of-result-2 c =
    let chunks : c.deref.result.now.items ≡ (arc_value c.self.inside.full).items = ap (λ v. v.items) c.deref.ensures in
    let full : AreFull c.deref.result.now.items = subst AreFull (sym chunks) c.self.invariant.full in
    let long : c.len.result ≡ length c.self.inside.last.items = c.len.ensures ∙ c.self.inside.last.ok.0 in
    let at_most : length c.self.inside.last.items ≤ 64 = c.self.invariant.short in
    let whole : length c.self.inside.last.items ≡ 64 = omega arith in
    let all : length (notes_in (arc_value c.self.inside.full).items ++ c.self.inside.last.items) ≡ length (arc_value c.self.inside.full).items * 64 + length c.self.inside.last.items =
    length-chunked (arc_value c.self.inside.full).items c.self.inside.last.items c.self.invariant in
    let seen : length (notes_in (arc_value c.self.inside.full).items ++ c.self.inside.last.items) ≡ length c.args.self = ap length c.self.view_is in
    let count : length (arc_value c.in_ok-full.full).items ≡ length c.deref.result.now.items + 1 = c.in_ok-full.ensures.count in
    let same : length c.deref.result.now.items ≡ length (arc_value c.self.inside.full).items = ap length chunks in
    let one : length c.push-2.new.self.items ≡ 1 = let own : c.push-2.new.self.len ≡ length c.push-2.new.self.items = c.push-2.new.self.ok.0 in let more : c.push-2.new.self.len ≡ c.new-last.result.len + 1 = c.in_ok-push-2.ensures.len in let none : c.new-last.result.len ≡ 0 = c.new-last.ensures.len in omega arith in
    record {
      full = c.in_ok-full.ensures.full full whole;
      few = omega arith;
      short = omega arith;
    }
