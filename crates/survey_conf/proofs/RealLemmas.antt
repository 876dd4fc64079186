-- The two reals that a description has where it names none.
use Rattle.std.proofs.Common.{◌≡◌, [], ◌∷◌, Ok, Err, Result, refl, sym, ◌∙◌, ap}
use Rattle.decimal_scale.specs.Real.{DecimalNumber, read_real, is_real, is_fixed_point, is_whole, before_letter, after_letter, led_digits, significant, zeros_dropped, digits_after_point, exponent, normal_form}
use Rattle.decimal_scale.specs.declared.fault.BadReal.{BadReal}
use Rattle.survey_conf.specs.Description.{real_one, real_zero}

pub read-real_one : read_real (49 ∷ []) ≡ Ok real_one
unfolding read_real is_real is_fixed_point is_whole before_letter after_letter led_digits significant zeros_dropped digits_after_point exponent normal_form
read-real_one = refl

pub read-real_zero : read_real (48 ∷ []) ≡ Ok real_zero
unfolding read_real is_real is_fixed_point is_whole before_letter after_letter led_digits significant zeros_dropped digits_after_point exponent normal_form
read-real_zero = refl

pub same-ok : (r : Result DecimalNumber BadReal) (a b : DecimalNumber) → r ≡ Ok a → r ≡ Ok b → a ≡ b
same-ok r a b x y = ap (λ s. elim s [ Ok c ↦ c | Err e ↦ a ]) (sym x ∙ y)

pub never-err : (r : Result DecimalNumber BadReal) (a : DecimalNumber) (e : BadReal) → r ≡ Ok a → r ≡ Err e → ⊥
never-err r a e x y = absurd cc
