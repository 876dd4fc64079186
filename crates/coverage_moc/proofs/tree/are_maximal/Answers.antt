use Rattle.std.proofs.Common.{◌∙◌, refl, sym, arith, get_or, subst, below_more, true≢false}
use Rattle.std.proofs.lemmas.List.Elements.{All-from_get_or}
use Rattle.coverage_moc.specs.Rows.{IsMaximalRow}
use Rattle.coverage_moc.proofs.tree.are_maximal.Goals as goal

pub loop-i-preserved : goal.loop-i-preserved
loop-i-preserved c = below_more (λ k. IsMaximalRow c.args.top c.args.rows.now (get_or c.args.rows.now k 0)) c.loop-i.i c.loop-i.invariant (subst (IsMaximalRow c.args.top c.args.rows.now) c.at.ensures (c.is_maximal-maximal.ensures.0 c.if-not-maximal.false))

pub returns-then-not-maximal : goal.returns-then-not-maximal
returns-then-not-maximal c = (
  λ h. absurd (true≢false (sym h)),
  λ all. absurd (true≢false (sym (c.is_maximal-maximal.ensures.1 (subst (IsMaximalRow c.args.top c.args.rows.now) (sym c.at.ensures) (all c.loop-i.i 0 (omega arith)))) ∙ c.if-not-maximal.true)),
)

pub returns : goal.returns
returns c = (
  λ h. All-from_get_or (IsMaximalRow c.args.top c.args.rows.now) c.args.rows.now 0 (λ i within. c.loop-i.invariant i (omega arith)),
  λ all. refl,
)
