use Rattle.std.proofs.Common.{◌∙◌, ◌≡◌, ◌/◌, ◌*◌, ◌<◌, length, get_or, sym, ap, arith}
use Rattle.coverage_moc.proofs.FileLemmas.{word_read}
use Rattle.coverage_moc.proofs.WrittenLemmas.{length-numbers, number_at}
use Rattle.coverage_moc.proofs.written.WrittenRows.at.Goals as goal

pub overflow_mul-i : goal.overflow_mul-i
overflow_mul-i c = let len : length c.args.self.now ≡ length c.self.inside.bytes.now / 8 = ap length (sym c.self.view_is) ∙ length-numbers c.self.inside.bytes.now in omega arith

pub slice_bounds-read_u64-count : goal.slice_bounds-read_u64-count
slice_bounds-read_u64-count c = let len : length c.args.self.now ≡ length c.self.inside.bytes.now / 8 = ap length (sym c.self.view_is) ∙ length-numbers c.self.inside.bytes.now in omega arith

pub slice_bounds-read_u64-start : goal.slice_bounds-read_u64-start
slice_bounds-read_u64-start c = let len : length c.args.self.now ≡ length c.self.inside.bytes.now / 8 = ap length (sym c.self.view_is) ∙ length-numbers c.self.inside.bytes.now in omega arith

pub read_u64-requires : goal.read_u64-requires
read_u64-requires c = let len : length c.args.self.now ≡ length c.self.inside.bytes.now / 8 = ap length (sym c.self.view_is) ∙ length-numbers c.self.inside.bytes.now in omega arith

pub returns : goal.returns
returns c =
    let bytes = c.self.inside.bytes.now in
    let len : length c.args.self.now ≡ length bytes / 8 = ap length (sym c.self.view_is) ∙ length-numbers bytes in
    c.read_u64.ensures ∙ word_read bytes (8 * c.args.i) ∙ sym (number_at bytes c.args.i (omega arith)) ∙ ap (λ zs. get_or zs c.args.i 0) c.self.view_is
