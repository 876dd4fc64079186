use Rattle.std.proofs.Common.{◌≡◌, ◌∙◌, ℕ, ◌-◌, ◌/◌, ◌++◌, true, false, List, sym, ap, subst, arith}
use Rattle.coverage_moc.specs.Cover.{has, without}
use Rattle.coverage_moc.specs.Rows.{SameMembers, AgreesUpTo}
use Rattle.coverage_moc.proofs.CoverLemmas.{parent_of_order}
use Rattle.coverage_moc.proofs.EditLemmas.{remove_own, remove_first, remove_none, remove_cut, take_keeps, lower_keeps, put_keeps}
use Rattle.coverage_moc.proofs.edit.+remove_cell.Goals as goal

pub returns-then-take_row-clause-was : goal.returns-then-take_row-clause-was
returns-then-take_row-clause-was t c = λ cells agrees.
    let row = ap (has c.args.rows.now.items) (sym c.uniq.ensures) ∙ sym c.take_row.ensures.was ∙ c.if-take_row.true in
    let taken = subst (λ (u : ℕ). SameMembers c.take_row.new.rows.items (without u c.args.rows.now.items)) c.uniq.ensures c.take_row.ensures.taken in
    (remove_own c.args.order c.args.npix c.args.rows.now.items c.take_row.new.rows.items c.requires.cell row taken cells agrees).0

pub returns-then-take_row-clause-removed : goal.returns-then-take_row-clause-removed
returns-then-take_row-clause-removed t c = λ cells agrees.
    let row = ap (has c.args.rows.now.items) (sym c.uniq.ensures) ∙ sym c.take_row.ensures.was ∙ c.if-take_row.true in
    let taken = subst (λ (u : ℕ). SameMembers c.take_row.new.rows.items (without u c.args.rows.now.items)) c.uniq.ensures c.take_row.ensures.taken in
    (remove_own c.args.order c.args.npix c.args.rows.now.items c.take_row.new.rows.items c.requires.cell row taken cells agrees).1

pub returns-then-take_row-clause-same : goal.returns-then-take_row-clause-same
returns-then-take_row-clause-same t c =
    let taken = subst (λ (u : ℕ). SameMembers c.take_row.new.rows.items (without u c.args.rows.now.items)) c.uniq.ensures c.take_row.ensures.taken in
    take_keeps c.args.order c.args.npix c.args.rows.now.items c.take_row.new.rows.items c.requires.cell taken

pub returns-then-order-eq0-clause-was : goal.returns-then-order-eq0-clause-was
returns-then-order-eq0-clause-was t c = λ cells agrees.
    let row = ap (has c.args.rows.now.items) (sym c.uniq.ensures) ∙ sym c.take_row.ensures.was ∙ c.if-take_row.false in
    let taken = subst (λ (u : ℕ). SameMembers c.take_row.new.rows.items (without u c.args.rows.now.items)) c.uniq.ensures c.take_row.ensures.taken in
    (remove_first c.args.order c.args.npix c.args.rows.now.items c.take_row.new.rows.items c.if-order-eq0.true c.requires.cell row taken cells agrees).0

pub returns-then-order-eq0-clause-removed : goal.returns-then-order-eq0-clause-removed
returns-then-order-eq0-clause-removed t c = λ cells agrees.
    let row = ap (has c.args.rows.now.items) (sym c.uniq.ensures) ∙ sym c.take_row.ensures.was ∙ c.if-take_row.false in
    let taken = subst (λ (u : ℕ). SameMembers c.take_row.new.rows.items (without u c.args.rows.now.items)) c.uniq.ensures c.take_row.ensures.taken in
    (remove_first c.args.order c.args.npix c.args.rows.now.items c.take_row.new.rows.items c.if-order-eq0.true c.requires.cell row taken cells agrees).1

pub returns-then-order-eq0-clause-same : goal.returns-then-order-eq0-clause-same
returns-then-order-eq0-clause-same t c =
    let taken = subst (λ (u : ℕ). SameMembers c.take_row.new.rows.items (without u c.args.rows.now.items)) c.uniq.ensures c.take_row.ensures.taken in
    take_keeps c.args.order c.args.npix c.args.rows.now.items c.take_row.new.rows.items c.requires.cell taken

pub remove_cell-requires : goal.remove_cell-requires
remove_cell-requires t c = (omega arith, (omega arith, (parent_of_order c.args.order c.args.npix (omega arith) c.requires.cell, c.take_row.ensures.ascending)))

pub returns-then-not-covered-clause-was : goal.returns-then-not-covered-clause-was
returns-then-not-covered-clause-was t c = λ cells agrees.
    let row = ap (has c.args.rows.now.items) (sym c.uniq.ensures) ∙ sym c.take_row.ensures.was ∙ c.if-take_row.false in
    let taken = subst (λ (u : ℕ). SameMembers c.take_row.new.rows.items (without u c.args.rows.now.items)) c.uniq.ensures c.take_row.ensures.taken in
    let was : (cells : List ℕ) → AgreesUpTo (c.args.order - 1) c.take_row.new.rows.items cells → false ≡ has cells (c.args.npix / 4) = λ cells agrees. sym c.if-not-covered.true ∙ c.in_ok-covered.ensures.was cells agrees in
    (remove_none c.args.order c.args.npix c.args.rows.now.items c.take_row.new.rows.items c.remove_cell.new.rows.items (omega arith) c.requires.cell row taken was c.in_ok-covered.ensures.removed c.in_ok-covered.ensures.same cells agrees).0

pub returns-then-not-covered-clause-removed : goal.returns-then-not-covered-clause-removed
returns-then-not-covered-clause-removed t c = λ cells agrees.
    let row = ap (has c.args.rows.now.items) (sym c.uniq.ensures) ∙ sym c.take_row.ensures.was ∙ c.if-take_row.false in
    let taken = subst (λ (u : ℕ). SameMembers c.take_row.new.rows.items (without u c.args.rows.now.items)) c.uniq.ensures c.take_row.ensures.taken in
    let was : (cells : List ℕ) → AgreesUpTo (c.args.order - 1) c.take_row.new.rows.items cells → false ≡ has cells (c.args.npix / 4) = λ cells agrees. sym c.if-not-covered.true ∙ c.in_ok-covered.ensures.was cells agrees in
    (remove_none c.args.order c.args.npix c.args.rows.now.items c.take_row.new.rows.items c.remove_cell.new.rows.items (omega arith) c.requires.cell row taken was c.in_ok-covered.ensures.removed c.in_ok-covered.ensures.same cells agrees).1

pub returns-then-not-covered-clause-same : goal.returns-then-not-covered-clause-same
returns-then-not-covered-clause-same t c = λ row high.
    let taken = subst (λ (u : ℕ). SameMembers c.take_row.new.rows.items (without u c.args.rows.now.items)) c.uniq.ensures c.take_row.ensures.taken in
    lower_keeps c.args.order c.take_row.new.rows.items c.remove_cell.new.rows.items (omega arith) c.in_ok-covered.ensures.same row high
    ∙ take_keeps c.args.order c.args.npix c.args.rows.now.items c.take_row.new.rows.items c.requires.cell taken row high

pub returns-clause-was : goal.returns-clause-was
returns-clause-was t c = λ cells agrees.
    let taken = subst (λ (u : ℕ). SameMembers c.take_row.new.rows.items (without u c.args.rows.now.items)) c.uniq.ensures c.take_row.ensures.taken in
    let was : (cells : List ℕ) → AgreesUpTo (c.args.order - 1) c.take_row.new.rows.items cells → true ≡ has cells (c.args.npix / 4) = λ cells agrees. sym c.if-not-covered.false ∙ c.in_ok-covered.ensures.was cells agrees in
    let put = subst (λ (zs : List ℕ). SameMembers c.put_rows.new.rows.items (zs ++ c.remove_cell.new.rows.items)) c.children.ensures c.in_ok-put_rows.ensures.put in
    let gone = subst (λ (u : ℕ). SameMembers c.take_row-2.new.rows.items (without u c.put_rows.new.rows.items)) c.uniq-2.ensures c.take_row-2.ensures.taken in
    (remove_cut c.args.order c.args.npix c.args.rows.now.items c.take_row.new.rows.items c.remove_cell.new.rows.items c.put_rows.new.rows.items c.take_row-2.new.rows.items (omega arith) c.requires.cell taken was c.in_ok-covered.ensures.removed c.in_ok-covered.ensures.same put gone cells agrees).0

pub returns-clause-removed : goal.returns-clause-removed
returns-clause-removed t c = λ cells agrees.
    let taken = subst (λ (u : ℕ). SameMembers c.take_row.new.rows.items (without u c.args.rows.now.items)) c.uniq.ensures c.take_row.ensures.taken in
    let was : (cells : List ℕ) → AgreesUpTo (c.args.order - 1) c.take_row.new.rows.items cells → true ≡ has cells (c.args.npix / 4) = λ cells agrees. sym c.if-not-covered.false ∙ c.in_ok-covered.ensures.was cells agrees in
    let put = subst (λ (zs : List ℕ). SameMembers c.put_rows.new.rows.items (zs ++ c.remove_cell.new.rows.items)) c.children.ensures c.in_ok-put_rows.ensures.put in
    let gone = subst (λ (u : ℕ). SameMembers c.take_row-2.new.rows.items (without u c.put_rows.new.rows.items)) c.uniq-2.ensures c.take_row-2.ensures.taken in
    (remove_cut c.args.order c.args.npix c.args.rows.now.items c.take_row.new.rows.items c.remove_cell.new.rows.items c.put_rows.new.rows.items c.take_row-2.new.rows.items (omega arith) c.requires.cell taken was c.in_ok-covered.ensures.removed c.in_ok-covered.ensures.same put gone cells agrees).1

pub returns-clause-same : goal.returns-clause-same
returns-clause-same t c = λ row high.
    let taken = subst (λ (u : ℕ). SameMembers c.take_row.new.rows.items (without u c.args.rows.now.items)) c.uniq.ensures c.take_row.ensures.taken in
    let put = subst (λ (zs : List ℕ). SameMembers c.put_rows.new.rows.items (zs ++ c.remove_cell.new.rows.items)) c.children.ensures c.in_ok-put_rows.ensures.put in
    let gone = subst (λ (u : ℕ). SameMembers c.take_row-2.new.rows.items (without u c.put_rows.new.rows.items)) c.uniq-2.ensures c.take_row-2.ensures.taken in
    take_keeps c.args.order c.args.npix c.put_rows.new.rows.items c.take_row-2.new.rows.items c.requires.cell gone row high
    ∙ put_keeps c.args.order c.args.npix c.remove_cell.new.rows.items c.put_rows.new.rows.items (omega arith) c.requires.cell put row high
    ∙ lower_keeps c.args.order c.take_row.new.rows.items c.remove_cell.new.rows.items (omega arith) c.in_ok-covered.ensures.same row high
    ∙ take_keeps c.args.order c.args.npix c.args.rows.now.items c.take_row.new.rows.items c.requires.cell taken row high
