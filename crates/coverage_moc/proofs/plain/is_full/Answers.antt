use Rattle.std.proofs.Common.{◌≡◌, ℕ, ◌-◌, ◌/◌, ◌^◌, ap, sym, ◌∙◌, inl, inr, arith}
use Rattle.std.proofs.lemmas.Bool.{cases_lt}
use Rattle.coverage_moc.specs.Cover.{has, is_full}
use Rattle.coverage_moc.proofs.MemberLemmas.{false_where}
use Rattle.coverage_moc.proofs.CoverLemmas.{full_at, full_from}
use Rattle.coverage_moc.proofs.PlainLemmas.{under_from, under_at}
use Rattle.coverage_moc.proofs.plain.is_full.Goals as goal
use Rattle.coverage_moc.proofs.plain.is_full.Goals.{else-leaf-below-via-then-leaf-below+else-not-is_there, else-leaf-below-via-else-leaf-below}

pub returns-then-not-is_there : goal.returns-then-not-is_there
returns-then-not-is_there c =
    let leaf : ℕ = c.loop-leaf.leaf in
    let below = c.cells_below-below.ensures.count in
    let is : leaf / 4 ^ (c.args.top - c.args.order) ≡ c.args.cell = ap (λ (k : ℕ). leaf / k) (sym below) ∙ c.if-leaf-below.true in
    sym (false_where (is_full c.args.top c.args.leaves.now c.args.order c.args.cell) (λ full.
    c.if-not-is_there.ensures ∙ full_at c.args.top c.args.leaves.now c.args.order c.args.cell full leaf (omega arith) (under_from c.args.top leaf c.args.order c.args.cell c.requires.order is)))

pub loop-leaf-preserved : goal.loop-leaf-preserved
loop-leaf-preserved c other within under =
    elim (cases_lt other c.loop-leaf.leaf) [
      | inl before ↦ c.loop-leaf.invariant other before under
      | inr here ↦
          let same : other ≡ c.loop-leaf.leaf = omega arith in
          let is : c.loop-leaf.leaf / 4 ^ (c.args.top - c.args.order) ≡ c.args.cell = ap (λ (k : ℕ). k / 4 ^ (c.args.top - c.args.order)) (sym same) ∙ under_at c.args.top other c.args.order c.args.cell under in
          let at : c.loop-leaf.leaf / c.cells_below-below.result ≡ c.args.cell = ap (λ (k : ℕ). c.loop-leaf.leaf / k) c.cells_below-below.ensures.count ∙ is in
          elim c.else-leaf-below.branch [
            | else-leaf-below-via-then-leaf-below+else-not-is_there w ↦ ap (has c.args.leaves.now) same ∙ sym w.is_there.ensures ∙ w.if-not-is_there.false
            | else-leaf-below-via-else-leaf-below w ↦ absurd (w.if-leaf-below.false at)
          ]
    ]

pub returns : goal.returns
returns c =
    sym (full_from c.args.top c.args.leaves.now c.args.order c.args.cell (λ leaf within under. c.loop-leaf.invariant leaf (omega arith) under))
