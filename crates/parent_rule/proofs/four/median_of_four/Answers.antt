use Rattle.std.proofs.Common.{◌∙◌, sym, arith}
use Rattle.parent_rule.specs.declared.combine.Combine.TheVariants.{Median}
use Rattle.parent_rule.proofs.FourNumbers.{Flagged, none_kept}
use Rattle.parent_rule.proofs.MedianCases.{Placed, first_kept, second_kept}
use Rattle.parent_rule.proofs.four.median_of_four.Goals as goal
use Rattle.parent_rule.proofs.four.median_of_four.Goals.{After-count-count}

-- which of the four are blank
flagged : (g : _) (c : After-count-count g) → Flagged (g.N.PixelNumber.value c.args.blank) (g.N.PixelNumber.value c.args.a) (g.N.PixelNumber.value c.args.b) (g.N.PixelNumber.value c.args.c) (g.N.PixelNumber.value c.args.d) c.kept_of-kept.result.a c.kept_of-kept.result.b c.kept_of-kept.result.c c.kept_of-kept.result.d
flagged g c = record { first = c.kept_of-kept.ensures.a; second = c.kept_of-kept.ensures.b; third = c.kept_of-kept.ensures.c; fourth = c.kept_of-kept.ensures.d }

-- where each is placed
placed : (g : _) (c : After-count-count g) → Placed (g.N.PixelNumber.value c.greatest-greatest.result) (g.N.PixelNumber.value c.args.a) (g.N.PixelNumber.value c.args.b) (g.N.PixelNumber.value c.args.c) (g.N.PixelNumber.value c.args.d) c.kept_of-kept.result.a c.kept_of-kept.result.b c.kept_of-kept.result.c c.kept_of-kept.result.d
    (g.N.PixelNumber.value c.if_kept.result) (g.N.PixelNumber.value c.if_kept-2.result) (g.N.PixelNumber.value c.if_kept-3.result) (g.N.PixelNumber.value c.if_kept-4.result)
placed g c = record {
  first = c.if_kept.ensures.chosen;
  second = c.if_kept-2.ensures.chosen;
  third = c.if_kept-3.ensures.chosen;
  fourth = c.if_kept-4.ensures.chosen;
  most_a = rw c.greatest-greatest.ensures c.if_kept.ensures.number.high;
  most_b = rw c.greatest-greatest.ensures c.if_kept-2.ensures.number.high;
  most_c = rw c.greatest-greatest.ensures c.if_kept-3.ensures.number.high;
  most_d = rw c.greatest-greatest.ensures c.if_kept-4.ensures.number.high;
}

pub returns-then-count-eq0 : goal.returns-then-count-eq0
returns-then-count-eq0 g c =
    none_kept Median _ _ _ _ _ _ _ _ _ (flagged g (goal.at.returns-then-count-eq0 g c).After-count-count) (sym c.count-count.ensures ∙ c.if-count-eq0.true)

pub returns-then-count-le2 : goal.returns-then-count-le2
returns-then-count-le2 g c =
    let base = (goal.at.returns-then-count-le2 g c).After-count-count in
    c.two_least-first.ensures.first
    ∙ first_kept _ _ _ _ _ _ _ _ _ _ _ _ _ _ (flagged g base) (placed g base) (omega (arith, c.count-count.ensures, c.if-count-eq0.false)) (rw c.count-count.ensures at c.if-count-le2.true)

pub returns-else-count-le2 : goal.returns-else-count-le2
returns-else-count-le2 g c =
    let base = (goal.at.returns-else-count-le2 g c).After-count-count in
    c.two_least-first.ensures.second
    ∙ second_kept _ _ _ _ _ _ _ _ _ _ _ _ _ _ (flagged g base) (placed g base) (omega (arith, c.count-count.ensures, c.if-count-le2.false))
