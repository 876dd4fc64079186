use Rattle.std.proofs.Common.{arith}
use Rattle.coverage_moc.proofs.MergeLemmas.{siblings_miss, siblings_first, siblings_last}
use Rattle.coverage_moc.proofs.merge.has_siblings.Goals as goal
use Rattle.coverage_moc.proofs.merge.has_siblings.Goals.{then-i-child-via-then-i-child, then-i-child-via-else-i-child+then-full-i-lt4}

pub returns-then-i-child : goal.returns-then-i-child
returns-then-i-child c = siblings_miss c.args.full.now c.args.i c.requires.ascending c.requires.i (λ s.
    let after = s.after in
    let within = s.within in
    elim c.then-i-child.branch [ then-i-child-via-then-i-child w ↦ absurd (omega arith) | then-i-child-via-else-i-child+then-full-i-lt4 w ↦ absurd (omega arith) ])

pub returns-then-full-start : goal.returns-then-full-start
returns-then-full-start c = siblings_last c.args.full.now c.args.i c.requires.ascending c.requires.i (omega arith) c.if-full-start.true

pub returns-else-full-start : goal.returns-else-full-start
returns-else-full-start c = siblings_first c.args.full.now c.args.i c.requires.ascending c.requires.i c.if-full-start.false
