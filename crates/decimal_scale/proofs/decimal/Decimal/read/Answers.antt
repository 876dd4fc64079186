-- The text without an exponent letter, with an exponent, and with something else after the letter.
use Rattle.std.proofs.Common.{rules, ◌≡◌, ℕ, ◌+◌, List, take, false, ℤ, ap, sym, ◌∙◌, subst, arith, Err}
use mir.Syntax.{w128}
use mir.Val.{SFits}
use Rattle.std.proofs.lemmas.Int.{to_z-of_z}
use Rattle.std.specs.Str.Parse.{without_leading_sign}
use Rattle.std.proofs.lemmas.List.{take_rest}
use Rattle.decimal_scale.specs.Real.{is_whole}
use Rattle.decimal_scale.specs.Scan.{IsCappedExponent}
use Rattle.decimal_scale.specs.declared.exponent.TheConstants.{EXPONENT_LIMIT}
use Rattle.std.proofs.lemmas.Grind.{common_steps}
use Rattle.std.specs.Prelude.{Result}
use Rattle.decimal_scale.specs.Real.{DecimalNumber}
use Rattle.decimal_scale.specs.declared.fault.BadReal.{BadReal}
use Rattle.decimal_scale.specs.declared.fault.BadReal.TheVariants.{NotANumber}
use Rattle.decimal_scale.proofs.Reading.{scaled_number, read_without_letter, read_with_capped, read_other_exponent}
use Rattle.decimal_scale.proofs.decimal.Decimal.read.Goals as goal

pub returns-in-None : goal.returns-in-None
returns-in-None c = c.read_scaled.ensures ∙ read_without_letter c.args.text.now (sym c.letter_place.ensures ∙ c.in-None.is)

pub returns-in_ok-written-in-Some : goal.returns-in_ok-written-in-Some
returns-in_ok-written-in-Some c =
    let wide : SFits w128 c.in_ok-written-in-Some.written = search rules in
    c.read_scaled-in-Some.ensures
    ∙ ap (λ (w : ℤ). scaled_number (take c.in-Some.at c.args.text.now) w) (to_z-of_z w128 c.in_ok-written-in-Some.written wide)
    ∙ read_with_capped c.args.text.now c.in-Some.at c.in_ok-written-in-Some.written (sym c.letter_place.ensures ∙ c.in-Some.is) (omega arith)
    (subst (λ (rest : List ℕ). IsCappedExponent EXPONENT_LIMIT rest c.in_ok-written-in-Some.written) (take_rest c.args.text.now (c.in-Some.at + 1)) c.in_ok-written-in-Some.ensures)

pub returns-in_err-written-in-Some : goal.returns-in_err-written-in-Some
returns-in_err-written-in-Some c =
    let refused : ◌≡◌ {A = Result DecimalNumber BadReal} c.from_residual.result (Err NotANumber) = grind (arith, common_steps) in
    refused ∙ sym (read_other_exponent c.args.text.now c.in-Some.at (sym c.letter_place.ensures ∙ c.in-Some.is)
    (subst (λ (rest : List ℕ). is_whole (without_leading_sign rest) ≡ false) (take_rest c.args.text.now (c.in-Some.at + 1)) (c.in_err-written-in-Some.ensures).is))
