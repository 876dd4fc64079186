use Rattle.std.proofs.Common.{rules, length, ◌≡◌, ◌≤◌, ◌*◌, ◌^◌, ◌∙◌, refl}
use Rattle.std.proofs.lemmas.Result.{err_from_is_err_and}
use Rattle.leaf_probe.proofs.PieceLemmas.{reads_then, reads_filled, reads_cut}
use Rattle.leaf_probe.proofs.ReadLemmas.{record_told, numbers_told}
use Rattle.leaf_probe.proofs.records.next_record.Goals as goal

pub returns-in_err-read_full-clause-reads : goal.returns-in_err-read_full-clause-reads
returns-in_err-read_full-clause-reads g c =
    let p = err_from_is_err_and c.from_residual-in_err-read_full.result c.from_residual-in_err-read_full.ensures.1 in
    rw (p.1, p.2) (reads_then 1 _ _ _ _ _ _ (reads_filled _ _ _ _ _ _ c.if-count-lt8.false c.in_ok-count.ensures.reads) c.in_err-read_full.ensures.reads)

pub returns-then-branch-raw-clause-reads : goal.returns-then-branch-raw-clause-reads
returns-then-branch-raw-clause-reads g c =
    reads_then 1 _ _ _ _ _ _ (reads_filled _ _ _ _ _ _ c.if-count-lt8.false c.in_ok-count.ensures.reads)
    (reads_cut _ _ _ _ _ _ (search rules) c.in_ok-read_full.ensures.reads)

pub returns-clause-reads : goal.returns-clause-reads
returns-clause-reads g c =
    reads_then 0 _ _ _ _ _ _ (reads_filled _ _ _ _ _ _ c.if-count-lt8.false c.in_ok-count.ensures.reads)
    (reads_filled _ _ _ _ _ _ (search rules) c.in_ok-read_full.ensures.reads)

pub returns-clause-told : goal.returns-clause-told
returns-clause-told g c =
    let size : length c.read_full-2.new.buf ≡ 2 * 4 ^ c.args.n = c.read_full-2.auto.buf ∙ c.requires.raw in
    let filled : length c.read_full-2.new.buf ≤ c.in_ok-read_full.field-0 = search rules in
    record_told c.args.top c.args.n _ _ _ c.read_full.new.buf c.in_ok-count.count _ _ c.read_full.auto.buf c.if-count-lt8.false
    c.in_ok-count.ensures.taken c.read_u64-leaf.ensures
    (numbers_told (4 ^ c.args.n) c.in_ok-read_full.field-0 _ _ c.read_full-2.new.buf _ size filled c.in_ok-read_full.ensures.taken refl)
