-- Each answer by its case of the normal form.
use Rattle.std.proofs.Common.{rules, arith}
use mir.Syntax.{w64, w128}
use mir.Val.{SFits}
use Rattle.std.proofs.lemmas.Int.{to_z-of_z}
use Rattle.decimal_scale.proofs.NormalForm.{too_long, no_digits, far_exponent, digits_in_range, digits_are_normal, as_narrow, seen_below, seen_above, seen_within}
use Rattle.decimal_scale.proofs.decimal.scale.Goals as goal
use Rattle.decimal_scale.proofs.decimal.scale.Goals.{then-exp-lt-MIN_EXP-via-then-exp-lt-MIN_EXP, then-exp-lt-MIN_EXP-via-else-exp-lt-MIN_EXP+then-exp-gt-MAX_EXP}

pub returns-then-digits-gt-MAX_DIGITS : goal.returns-then-digits-gt-MAX_DIGITS
returns-then-digits-gt-MAX_DIGITS c = λ number h. too_long c.args.is_negative number c.args.digits c.args.written h c.if-digits-gt-MAX_DIGITS.true

pub returns-then-digits-eq0 : goal.returns-then-digits-eq0
returns-then-digits-eq0 c = λ number h. no_digits c.args.is_negative number c.args.digits c.args.written h c.if-digits-eq0.true

pub returns-then-exp-lt-MIN_EXP : goal.returns-then-exp-lt-MIN_EXP
returns-then-exp-lt-MIN_EXP c = λ number h.
    far_exponent c.args.is_negative number c.args.digits c.args.written c.exponent-exp.result c.ranges.written h c.if-digits-eq0.false c.if-digits-gt-MAX_DIGITS.false c.exponent-exp.ensures
    (elim c.then-exp-lt-MIN_EXP.branch [
      | then-exp-lt-MIN_EXP-via-then-exp-lt-MIN_EXP w ↦ seen_below c.exponent-exp.result (search rules) w.if-exp-lt-MIN_EXP.true
      | then-exp-lt-MIN_EXP-via-else-exp-lt-MIN_EXP+then-exp-gt-MAX_EXP w ↦ seen_above c.exponent-exp.result (search rules) w.if-exp-gt-MAX_EXP.true
    ])

pub invariant_of-result-2 : goal.invariant_of-result-2
invariant_of-result-2 c =
    let wide : SFits w128 c.exponent-exp.result = search rules in
    let sized : SFits w64 c.signed.result = search rules in
    let in_range = seen_within c.exponent-exp.result wide c.if-exp-lt-MIN_EXP.false c.if-exp-gt-MAX_EXP.false in
    let normal = digits_are_normal c.args.is_negative c.args.digits c.exponent-exp.result c.signed.result
    (c.requires.small c.if-digits-gt-MAX_DIGITS.false) (c.requires.last (omega (arith, c.if-digits-eq0.false)) c.if-digits-gt-MAX_DIGITS.false) c.signed.ensures in_range in
    rw (as_narrow c.exponent-exp.result wide in_range, to_z-of_z w64 c.signed.result sized) normal

pub returns : goal.returns
returns c = λ number h.
    let wide : SFits w128 c.exponent-exp.result = search rules in
    let sized : SFits w64 c.signed.result = search rules in
    let in_range = seen_within c.exponent-exp.result wide c.if-exp-lt-MIN_EXP.false c.if-exp-gt-MAX_EXP.false in
    rw (as_narrow c.exponent-exp.result wide in_range, to_z-of_z w64 c.signed.result sized)
    (digits_in_range c.args.is_negative number c.args.digits c.args.written c.exponent-exp.result c.signed.result c.ranges.written h
    c.if-digits-eq0.false c.if-digits-gt-MAX_DIGITS.false c.exponent-exp.ensures in_range c.signed.ensures)
