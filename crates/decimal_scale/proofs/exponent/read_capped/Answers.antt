-- Each byte by its lemma, and then the whole text.
use Rattle.std.proofs.Common.{◌≡◌, ℕ, ◌+◌, ◌-◌, ◌*◌, min, length, get_or, refl, sym, ap, ◌∙◌, eqb-true, subst}
use Rattle.decimal_scale.specs.declared.exponent.TheConstants.{EXPONENT_LIMIT}
use Rattle.decimal_scale.proofs.Capped.{IsCappedFront, capped_next, capped_whole, not_whole_at, not_whole_empty, nonempty}
use Rattle.decimal_scale.proofs.exponent.read_capped.Goals as goal

pub returns-then-is_empty : goal.returns-then-is_empty
returns-then-is_empty c = record {
  is = not_whole_empty c.args.digits.now (eqb-true (length c.args.digits.now) 0 (sym c.is_empty.ensures ∙ c.if-is_empty.true));
  cause = refl;
}

pub returns-then-not-is_ascii_digit : goal.returns-then-not-is_ascii_digit
returns-then-not-is_ascii_digit c = record {
  is = not_whole_at c.args.digits.now c.loop-byte.byte-index c.loop-byte-test.true (sym c.is_ascii_digit.ensures.value ∙ c.if-not-is_ascii_digit.true);
  cause = refl;
}

pub loop-byte-preserved : goal.loop-byte-preserved
loop-byte-preserved c =
    let next = capped_next EXPONENT_LIMIT c.args.digits.now c.loop-byte.byte-index c.loop-byte.number c.loop-byte-test.true
    (sym c.is_ascii_digit.ensures.value ∙ c.if-not-is_ascii_digit.false) c.loop-byte.invariant in
    let step : c.loop-byte.number * 10 + c.from.result ≡ c.loop-byte.number * 10 + (get_or c.args.digits.now c.loop-byte.byte-index 0 - 48) =
    ap (λ (d : ℕ). c.loop-byte.number * 10 + d) c.from.ensures in
    subst (λ (n : ℕ). IsCappedFront EXPONENT_LIMIT c.args.digits.now (c.loop-byte.byte-index + 1) n)
    (sym (c.min-number.ensures ∙ ap (λ (n : ℕ). min n EXPONENT_LIMIT) step)) next

pub returns : goal.returns
returns c = capped_whole EXPONENT_LIMIT c.args.digits.now c.loop-byte.byte-index c.loop-byte.number c.loop-byte-test.false
    (nonempty (length c.args.digits.now) (sym c.is_empty.ensures ∙ c.if-is_empty.false)) c.loop-byte.invariant
