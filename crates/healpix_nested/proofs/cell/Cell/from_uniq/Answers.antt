use Rattle.std.proofs.Common.{◌-◌, ◌*◌, ◌/◌, ◌^◌, ◌<◌, ◌≤◌, ◌%◌, ℕ, ap, arith}
use Rattle.std.proofs.lemmas.Option.{IfSome_then}
use Rattle.healpix_nested.proofs.Uniq.{log_of_number, order_begins, order_ends, shift_of_order, number_finds_cell, number_comes_back, some_is_not_none}
use Rattle.healpix_nested.proofs.cell.Cell.from_uniq.Goals as goal

pub overflow_sub-order : goal.overflow_sub-order
overflow_sub-order c = log_of_number c.args.uniq c.ilog2.result (omega arith) c.ilog2.ensures.next_power_gt

pub overflow_sub-uniq : goal.overflow_sub-uniq
overflow_sub-uniq c =
    let two : 2 ≤ c.ilog2.result = log_of_number c.args.uniq c.ilog2.result (omega arith) c.ilog2.ensures.next_power_gt in
    let begins : 4 * 4 ^ ((c.ilog2.result - 2) / 2) ≤ c.args.uniq = order_begins c.args.uniq c.ilog2.result two c.ilog2.ensures.power_le in
    rw (shift_of_order c.args.uniq ((c.ilog2.result - 2) / 2) begins c.ranges.uniq) begins

pub returns-clause-cell : goal.returns-clause-cell
returns-clause-cell c =
    let two : 2 ≤ c.ilog2.result = log_of_number c.args.uniq c.ilog2.result (omega arith) c.ilog2.ensures.next_power_gt in
    let begins : 4 * 4 ^ ((c.ilog2.result - 2) / 2) ≤ c.args.uniq = order_begins c.args.uniq c.ilog2.result two c.ilog2.ensures.power_le in
    IfSome_then c.new.result c.new.ensures.cell (λ v is.
    number_comes_back c.args.uniq ((c.ilog2.result - 2) / 2)
    (c.args.uniq - 4 * 2 ^ (2 * ((c.ilog2.result - 2) / 2)) % 18446744073709551616) v.order v.npix begins
    (ap (λ (n : ℕ). c.args.uniq - n) (shift_of_order c.args.uniq ((c.ilog2.result - 2) / 2) begins c.ranges.uniq)) is)

pub returns-clause-inverse : goal.returns-clause-inverse
returns-clause-inverse c order npix cell e =
    let two : 2 ≤ c.ilog2.result = log_of_number c.args.uniq c.ilog2.result (omega arith) c.ilog2.ensures.next_power_gt in
    let begins : 4 * 4 ^ ((c.ilog2.result - 2) / 2) ≤ c.args.uniq = order_begins c.args.uniq c.ilog2.result two c.ilog2.ensures.power_le in
    let ends : c.args.uniq < 16 * 4 ^ ((c.ilog2.result - 2) / 2) = order_ends c.args.uniq c.ilog2.result two c.ilog2.ensures.next_power_gt in
    number_finds_cell c.new.result c.args.uniq ((c.ilog2.result - 2) / 2)
    (c.args.uniq - 4 * 2 ^ (2 * ((c.ilog2.result - 2) / 2)) % 18446744073709551616) begins ends
    (ap (λ (n : ℕ). c.args.uniq - n) (shift_of_order c.args.uniq ((c.ilog2.result - 2) / 2) begins c.ranges.uniq))
    c.new.ensures.known c.new.ensures.cell order npix cell e

pub returns-clause-none : goal.returns-clause-none
returns-clause-none c none order npix cell e =
    some_is_not_none c.new.result (record { order = order; npix = npix }) (returns-clause-inverse c order npix cell e) none
