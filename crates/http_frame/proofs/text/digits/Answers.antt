use Rattle.std.proofs.Common.{sym, ap, ◌∙◌, ◌+◌, ◌-◌, ◌^◌, min}
use Rattle.http_frame.proofs.DigitSteps.{digits_more, number_more}
use Rattle.http_frame.proofs.text.digits.Goals as goal

pub loop-byte-preserved : goal.loop-byte-preserved
loop-byte-preserved c =
    let digit = sym c.is_ascii_digit.ensures.value ∙ c.if-not-is_ascii_digit.false in (
      digits_more c.args.text.now c.loop-byte.byte-index c.loop-byte-test.true c.loop-byte.invariant.0 digit,
      c.saturating_add-number.ensures
          ∙ ap (λ d. min (c.saturating_mul.result + d) (2 ^ 64 - 1)) c.from.ensures
          ∙ number_more c.args.text.now c.loop-byte.byte-index c.loop-byte-test.true (2 ^ 64 - 1) c.loop-byte.number c.saturating_mul.result c.loop-byte.invariant.1 c.saturating_mul.ensures digit,
    )
