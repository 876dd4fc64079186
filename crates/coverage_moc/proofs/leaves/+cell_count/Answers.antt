use Rattle.std.proofs.Common.{◌≡◌, ◌∙◌, ℕ, ◌+◌, ◌-◌, ◌*◌, ◌^◌, ◌<◌, ◌≤◌, ap₂, arith}
use Rattle.healpix_nested.specs.CellLaws.{four_pow_mono}
use Rattle.coverage_moc.proofs.CountLemmas.{count_first, count_more, power_of_order}
use Rattle.coverage_moc.proofs.leaves.+cell_count.Goals as goal

pub returns-then-order-eq0-clause-count : goal.returns-then-order-eq0-clause-count
returns-then-order-eq0-clause-count t c = c.row_count-own.ensures.count ∙ count_first c.args.order c.args.rows.now c.if-order-eq0.true c.requires.ascending

pub overflow_mul-result : goal.overflow_mul-result
overflow_mul-result t c =
    let most : 4 ^ (c.args.order - 1) ≤ 4 ^ 10 = four_pow_mono (c.args.order - 1) 10 (omega arith) in
    let few : c.cell_count.result + 2 ^ 32 ≤ 2 ^ 33 * 4 ^ (c.args.order - 1) = c.cell_count.ensures.at_most in
    omega arith

pub overflow_add-result : goal.overflow_add-result
overflow_add-result t c =
    let most : 4 ^ (c.args.order - 1) ≤ 4 ^ 10 = four_pow_mono (c.args.order - 1) 10 (omega arith) in
    let few : c.cell_count.result + 2 ^ 32 ≤ 2 ^ 33 * 4 ^ (c.args.order - 1) = c.cell_count.ensures.at_most in
    let own : c.row_count-own.result < 2 ^ 32 = c.row_count-own.ensures.at_most in
    omega arith

pub returns-clause-count : goal.returns-clause-count
returns-clause-count t c =
    let some : 0 < c.args.order = omega arith in
    ap₂ (λ (x y : ℕ). 4 * x + y) c.cell_count.ensures.count c.row_count-own.ensures.count
    ∙ count_more c.args.order c.args.rows.now some c.requires.order c.requires.ascending c.requires.alone

pub returns-clause-at_most : goal.returns-clause-at_most
returns-clause-at_most t c =
    let some : 0 < c.args.order = omega arith in
    let power : 4 ^ c.args.order ≡ 4 * 4 ^ (c.args.order - 1) = power_of_order c.args.order some in
    let few : c.cell_count.result + 2 ^ 32 ≤ 2 ^ 33 * 4 ^ (c.args.order - 1) = c.cell_count.ensures.at_most in
    let own : c.row_count-own.result < 2 ^ 32 = c.row_count-own.ensures.at_most in
    omega arith
