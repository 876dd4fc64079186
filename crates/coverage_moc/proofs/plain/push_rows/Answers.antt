use Rattle.std.proofs.Common.{ℕ, ◌+◌, ◌^◌, ◌≤◌, ap, sym, ◌∙◌, arith, Vec, Global}
use Rattle.healpix_nested.specs.Cells.{uniq_number}
use Rattle.healpix_nested.specs.CellLaws.{four_pow_mono}
use Rattle.coverage_moc.specs.Cover.{is_row}
use Rattle.coverage_moc.proofs.PlainLemmas.{chosen_this, chosen_not}
use Rattle.coverage_moc.proofs.plain.push_rows.Goals as goal
use Rattle.coverage_moc.proofs.plain.push_rows.Goals.{then-is_row+in_ok-push, else-is_row}

pub overflow_add-first_number : goal.overflow_add-first_number
overflow_add-first_number c = let most : 4 ^ c.args.order ≤ 4 ^ 11 = four_pow_mono c.args.order 11 (omega arith) in omega arith

pub loop-cell-preserved : goal.loop-cell-preserved
loop-cell-preserved c =
    let test = is_row c.args.top c.args.leaves.now c.args.order in
    let number = uniq_number c.args.order in
    let cell : ℕ = c.loop-cell.cell in
    elim c.if-is_row.branch [
      | then-is_row+in_ok-push w ↦ chosen_this number test cell (w.first_number.result + cell) c.args.rows.now.items c.loop-cell.rows.items c.if-is_row.rows.items (sym w.if-is_row.ensures)
          (ap (λ (k : ℕ). k + cell) w.first_number.ensures.number) c.loop-cell.invariant (ap (λ (v : Vec ℕ Global). v.items) w.rows-is ∙ w.in_ok-push.ensures.items)
      | else-is_row w ↦ ap (λ (v : Vec ℕ Global). v.items) w.rows-is ∙ chosen_not number test cell c.args.rows.now.items c.loop-cell.rows.items (sym w.if-is_row.ensures) c.loop-cell.invariant
    ]
