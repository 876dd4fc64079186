use Rattle.std.proofs.Common.{◌≡◌, ◌∙◌, ℕ, ◌/◌, ◌<◌, ◌∷◌, false, not, List, filter, sym, ap₂, subst, arith}
use Rattle.std.specs.List.{list_all}
use Rattle.coverage_moc.specs.Cover.{has}
use Rattle.coverage_moc.specs.Rows.{SameMembers, children}
use Rattle.coverage_moc.proofs.EditLemmas.{add_ends, add_goes_up, add_keeps}
use Rattle.coverage_moc.proofs.edit.+add_cell.Goals as goal
use Rattle.coverage_moc.proofs.edit.+add_cell.Goals.{else-order-gt0-via-then-order-gt0+else-has_rows, else-order-gt0-via-else-order-gt0}

pub returns-in_ok-add_cell-clause-added : goal.returns-in_ok-add_cell-clause-added
returns-in_ok-add_cell-clause-added t c =
    let rows1 = c.put_row.new.rows.items in
    let put = subst (λ (u : ℕ). SameMembers rows1 (u ∷ c.args.rows.now.items)) c.uniq.ensures c.in_ok-put_row.ensures.put in
    let all = ap₂ (λ (a b : List ℕ). list_all (has a) b) (sym c.deref.ensures.value) (sym c.children.ensures) ∙ sym c.has_rows.ensures ∙ c.if-has_rows.true in
    let taken = subst (λ (gone : List ℕ). SameMembers c.take_rows.new.rows.items (filter (λ row. not (has gone row)) rows1)) c.children-then-has_rows.ensures c.take_rows.ensures.taken in
    add_goes_up c.args.order c.args.npix c.args.rows.now.items rows1 c.take_rows.new.rows.items c.add_cell.new.rows.items c.if-order-gt0.true c.requires.cell put all taken c.in_ok-add_cell.ensures.added c.in_ok-add_cell.ensures.same

pub returns-in_ok-add_cell-clause-same : goal.returns-in_ok-add_cell-clause-same
returns-in_ok-add_cell-clause-same t c =
    let rows1 = c.put_row.new.rows.items in
    let put = subst (λ (u : ℕ). SameMembers rows1 (u ∷ c.args.rows.now.items)) c.uniq.ensures c.in_ok-put_row.ensures.put in
    let taken = subst (λ (gone : List ℕ). SameMembers c.take_rows.new.rows.items (filter (λ row. not (has gone row)) rows1)) c.children-then-has_rows.ensures c.take_rows.ensures.taken in
    add_keeps c.args.order c.args.npix c.args.rows.now.items rows1 c.take_rows.new.rows.items c.add_cell.new.rows.items c.if-order-gt0.true c.requires.cell put taken c.in_ok-add_cell.ensures.same

pub returns-else-order-gt0-clause-added : goal.returns-else-order-gt0-clause-added
returns-else-order-gt0-clause-added t c =
    let rows1 = c.put_row.new.rows.items in
    let put = subst (λ (u : ℕ). SameMembers rows1 (u ∷ c.args.rows.now.items)) c.uniq.ensures c.in_ok-put_row.ensures.put in
    let missing : 0 < c.args.order → list_all (has rows1) (children c.args.order (c.args.npix / 4)) ≡ false = λ some. elim c.else-order-gt0.branch [
      | else-order-gt0-via-then-order-gt0+else-has_rows w ↦ ap₂ (λ (a b : List ℕ). list_all (has a) b) (sym w.deref.ensures.value) (sym w.children.ensures) ∙ sym w.has_rows.ensures ∙ w.if-has_rows.false
      | else-order-gt0-via-else-order-gt0 w ↦ absurd (omega arith)
    ] in
    add_ends c.args.order c.args.npix c.args.rows.now.items rows1 c.requires.cell put missing
