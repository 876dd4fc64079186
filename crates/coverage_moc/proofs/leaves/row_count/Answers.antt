use Rattle.std.proofs.Common.{◌≡◌, ◌∙◌, ℕ, ◌*◌, ◌^◌, ◌&&◌, leb, ltb, count_by, ap₂, arith}
use Rattle.coverage_moc.proofs.leaves.row_count.Goals as goal

pub returns-clause-count : goal.returns-clause-count
returns-clause-count c =
    let low : c.first_number-first.result ≡ 4 * 4 ^ c.args.order = c.first_number-first.ensures.number in
    let high : 4 * c.first_number-first.result ≡ 16 * 4 ^ c.args.order = omega arith in
    c.rows_between.ensures.count ∙ ap₂ (λ (a b : ℕ). count_by (λ row. leb a row && ltb row b) c.args.rows.now) low high
