use Rattle.std.proofs.Common.{rules, ◌≡◌, ◌≢◌, ◌<◌, List, length, All, take, true, not, w64, ℤ, pos, ◌+ℤ◌, ◌≤ℤ◌, ◌<ℤ◌, FitsSigned, to_z, of_z, ap, sym, ◌∙◌, arith}
use Rattle.std.proofs.lemmas.Int.{ints, to_z-of_z}
use Rattle.std.proofs.lemmas.List.Elements.{All-filter, filter_passes}
use Rattle.std.specs.Ordering.{int_eq}
use Rattle.parent_rule.specs.Depth.{IsNumber}
use Rattle.parent_rule.specs.Combined.{combined, not_blank, rounded_mean, mean_beside_blank}
use Rattle.parent_rule.specs.CombinedLaws.{combined-number, blank_below}
use Rattle.parent_rule.proofs.Cases.{combined_none, combined_mean, combined_median, mean_at_blank, mean_elsewhere}
use Rattle.parent_rule.proofs.mean.mean4.Goals as goal
use Rattle.parent_rule.proofs.mean.mean4.Goals.{After-without_blanks-count, Then-mean-blank, Else-mean-blank, After-median_of}
use Rattle.parent_rule.specs.declared.combine.Combine.TheVariants.{Mean, Median}

-- the blank number comes back from its bits as it was
blank_back : (c : After-without_blanks-count) → to_z w64 (of_z w64 c.blank-blank.result) ≡ c.args.depth.blank
blank_back c =
    let fits : FitsSigned w64 c.blank-blank.result = search rules in
    to_z-of_z w64 c.blank-blank.result fits ∙ c.blank-blank.ensures.blank

-- the numbers that aren't blank
abbrev kept : After-without_blanks-count → List ℤ
kept c = take c.without_blanks-count.result.1 c.without_blanks-count.result.0

kept_is : (c : After-without_blanks-count) → kept c ≡ not_blank c.args.depth.blank c.args.v
kept_is c = c.without_blanks-count.ensures.kept ∙ ap (λ b. not_blank b c.args.v) (blank_back c)

kept_length : (c : After-without_blanks-count) → length (kept c) ≡ c.without_blanks-count.result.1
kept_length c = search rules

-- what the four numbers give is a number
number : (c : After-without_blanks-count) (z : ℤ) → z ≡ combined c.args.depth.combine c.args.depth.blank c.args.v → IsNumber c.args.depth.bitpix z
number c z is =
    let blank : IsNumber c.args.depth.bitpix c.args.depth.blank = rw (← c.blank-blank.ensures.blank) c.blank-blank.ensures.number in
    rw is (combined-number c.args.depth.combine c.args.depth.bitpix c.args.depth.blank c.args.v blank c.requires)

pub returns-then-count-eq0-clause-combined : goal.returns-then-count-eq0-clause-combined
returns-then-count-eq0-clause-combined c =
    let base = (goal.at.returns-then-count-eq0-clause-combined c).After-without_blanks-count in
    blank_back base ∙ sym (combined_none c.args.depth.combine c.args.depth.blank c.args.v (kept base) (kept_is base) (kept_length base ∙ c.if-count-eq0.true))

-- where some are left, the mean as the definition has it
the_mean : (base : After-without_blanks-count) → Mean ≡ base.args.depth.combine → base.without_blanks-count.result.1 ≢ 0 → combined base.args.depth.combine base.args.depth.blank base.args.v ≡ mean_beside_blank base.args.depth.blank (kept base)
the_mean base way some =
    combined_mean base.args.depth.combine base.args.depth.blank base.args.v (kept base) (sym way) (kept_is base) (omega (arith, kept_length base))

-- the mean is the blank number, so that is no number's end
mean_is_blank : (c : Then-mean-blank) → rounded_mean (kept (goal.at.overflow_add-result c).After-without_blanks-count) ≡ c.args.depth.blank
mean_is_blank c =
    let fits : FitsSigned w64 c.mean_of-mean.result = search rules in
    sym c.mean_of-mean.ensures ∙ sym (to_z-of_z w64 c.mean_of-mean.result fits) ∙ ap (to_z w64) c.if-mean-blank.true ∙ blank_back (goal.at.overflow_add-result c).After-without_blanks-count

more_fits : (c : Then-mean-blank) → FitsSigned w64 (c.args.depth.blank +ℤ pos 1)
more_fits c =
    let base = (goal.at.overflow_add-result c).After-without_blanks-count in
    let some : 0 < length (kept base) = omega (arith, kept_length base) in
    let high : All (λ v. v ≤ℤ pos 9_223_372_036_854_775_807) c.args.v = search rules in
    let kept_high : All (λ v. v ≤ℤ pos 9_223_372_036_854_775_807) (kept base) = rw (kept_is base) (All-filter (λ v. not (int_eq v c.args.depth.blank)) (λ v. v ≤ℤ pos 9_223_372_036_854_775_807) c.args.v high) in
    let other : All (λ v. not (int_eq v c.args.depth.blank) ≡ true) (kept base) = rw (kept_is base) (filter_passes (λ v. not (int_eq v c.args.depth.blank)) c.args.v) in
    let below : c.args.depth.blank <ℤ pos 9_223_372_036_854_775_807 = blank_below c.args.depth.blank (pos 9_223_372_036_854_775_807) (kept base) some kept_high other (mean_is_blank c) in
    let fits : FitsSigned w64 c.blank-blank.result = search rules in
    let same : c.blank-blank.result ≡ c.args.depth.blank = c.blank-blank.ensures.blank in
    omega (arith, ints)

pub overflow_add-result : goal.overflow_add-result
overflow_add-result c = rw (blank_back (goal.at.overflow_add-result c).After-without_blanks-count) (more_fits c)

pub returns-then-mean-blank-clause-combined : goal.returns-then-mean-blank-clause-combined
returns-then-mean-blank-clause-combined c =
    let base = (goal.at.returns-then-mean-blank-clause-combined c).After-without_blanks-count in
    rw (blank_back base) (to_z-of_z w64 (c.args.depth.blank +ℤ pos 1) (more_fits c) ∙ sym (mean_at_blank c.args.depth.blank (kept base) (mean_is_blank c)) ∙ sym (the_mean base c.in-Mean.ensures c.if-count-eq0.false))

pub returns-then-mean-blank-clause-number : goal.returns-then-mean-blank-clause-number
returns-then-mean-blank-clause-number c =
    number (goal.at.returns-then-mean-blank-clause-number c).After-without_blanks-count _ (returns-then-mean-blank-clause-combined c)

pub returns-else-mean-blank-clause-combined : goal.returns-else-mean-blank-clause-combined
returns-else-mean-blank-clause-combined c =
    let base = (goal.at.returns-else-mean-blank-clause-combined c).After-without_blanks-count in
    let fits : FitsSigned w64 c.mean_of-mean.result = search rules in
    let other : rounded_mean (kept base) ≢ c.args.depth.blank = λ e. c.if-mean-blank.false (ap (of_z w64) (c.mean_of-mean.ensures ∙ e ∙ sym c.blank-blank.ensures.blank)) in
    to_z-of_z w64 c.mean_of-mean.result fits ∙ c.mean_of-mean.ensures ∙ sym (mean_elsewhere c.args.depth.blank (kept base) other) ∙ sym (the_mean base c.in-Mean.ensures c.if-count-eq0.false)

pub returns-else-mean-blank-clause-number : goal.returns-else-mean-blank-clause-number
returns-else-mean-blank-clause-number c =
    number (goal.at.returns-else-mean-blank-clause-number c).After-without_blanks-count _ (returns-else-mean-blank-clause-combined c)

pub returns-in-Median-clause-combined : goal.returns-in-Median-clause-combined
returns-in-Median-clause-combined c =
    let base = (goal.at.returns-in-Median-clause-combined c).After-without_blanks-count in
    let fits : FitsSigned w64 c.median_of.result = search rules in
    let way : c.args.depth.combine ≡ Median = sym c.combine.ensures ∙ c.in-Median.is in
    let some : 0 < length (kept base) = omega (arith, kept_length base) in
    to_z-of_z w64 c.median_of.result fits ∙ c.median_of.ensures c.args.depth.blank ∙ sym (combined_median c.args.depth.combine c.args.depth.blank c.args.v (kept base) way (kept_is base) some)

pub returns-in-Median-clause-number : goal.returns-in-Median-clause-number
returns-in-Median-clause-number c =
    number (goal.at.returns-in-Median-clause-number c).After-without_blanks-count _ (returns-in-Median-clause-combined c)
