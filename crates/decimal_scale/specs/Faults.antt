-- The texts of the faults.
use Rattle.std.specs.Prelude.{ℕ, List, codes}
use Rattle.decimal_scale.specs.declared.fault.BadReal.{BadReal}
use Rattle.decimal_scale.specs.declared.fault.BadReal.TheVariants.{NotANumber, TooLong, Exponent}

-- why a text is no number
abbrev pub bad_real_text : BadReal → List ℕ
bad_real_text NotANumber = codes "not a real number"
bad_real_text TooLong = codes "more than 18 significant digits"
bad_real_text Exponent = codes "an exponent below -400 or above 400"
