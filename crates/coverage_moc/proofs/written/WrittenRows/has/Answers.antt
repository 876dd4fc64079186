use Rattle.std.proofs.Common.{◌≡◌, ◌+◌, ◌/◌, ◌-◌, ◌<◌, ◌≤◌, ℕ, length, get_or, true, sym, ◌∙◌, arith, true≢false, eqb-true, eq-eqb, ltb-true, ltb-false}
use Rattle.coverage_moc.proofs.WrittenLemmas.{lower_half, upper_half, searched_in}
use Rattle.coverage_moc.proofs.written.WrittenRows.has.Goals as goal

pub loop-low-preserved-then-at-row : goal.loop-low-preserved-then-at-row
loop-low-preserved-then-at-row c = (
  omega arith,
  c.loop-low.invariant.1,
  lower_half c.args.self.now c.args.row (c.loop-low.low + (c.loop-low.high - c.loop-low.low) / 2) c.requires (let most : c.loop-low.high ≤ length c.args.self.now = c.loop-low.invariant.1 in omega arith) (omega arith),
  c.loop-low.invariant.3,
)

pub loop-low-preserved : goal.loop-low-preserved
loop-low-preserved c = (
  omega arith,
  (let most : c.loop-low.high ≤ length c.args.self.now = c.loop-low.invariant.1 in omega arith),
  c.loop-low.invariant.2,
  upper_half c.args.self.now c.args.row (c.loop-low.low + (c.loop-low.high - c.loop-low.low) / 2) c.requires (omega arith),
)

pub returns-then-low-len : goal.returns-then-low-len
returns-then-low-len c =
    searched_in c.args.self.now c.args.row c.loop-low.low _ c.requires (omega arith) c.loop-low.invariant.2 (λ k ge within. c.loop-low.invariant.3 k (omega arith) within)
    (λ h. let same = eqb-true c.at-then-low-len.result c.args.row h in (omega arith, sym c.at-then-low-len.ensures ∙ same))
    (λ within at. eq-eqb c.at-then-low-len.result c.args.row (c.at-then-low-len.ensures ∙ at))

pub returns-else-low-len : goal.returns-else-low-len
returns-else-low-len c =
    searched_in c.args.self.now c.args.row c.loop-low.low _ c.requires (omega arith) c.loop-low.invariant.2 (λ k ge within. c.loop-low.invariant.3 k (omega arith) within)
    (λ h. let within = ltb-true c.loop-low.low c.len.result h in absurd (omega arith))
    (λ within at. absurd (omega arith))
