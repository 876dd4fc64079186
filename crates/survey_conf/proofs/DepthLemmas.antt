-- What the lines say together.
use Rattle.std.proofs.Common.{◌≡◌, ℕ, Bool, true, false, cond, ◌&&◌, List, Option, Some, None, refl, sym, subst, ◌∙◌, arith, true≢false, ℤ, pos}
use Rattle.std.specs.Prelude.{IsTrue, IsSome, int_le, IfSome, MatchOption, unwrap_or, ◌↔◌}
use Rattle.std.specs.List.{list_all}
use Rattle.std.specs.Option.{option_and_then}
use Rattle.std.proofs.lemmas.Int.{ints}
use Rattle.parent_rule.specs.Depth.{PixelDepth, is_bitpix, IsNumber, least_number, greatest_number}
use Rattle.survey_conf.specs.Numbers.{natural, natural_that, bitpix, whole, combine}
use Rattle.parent_rule.specs.declared.combine.Combine.{Combine}
use Rattle.parent_rule.specs.declared.combine.Combine.TheVariants.{Mean}
use Rattle.survey_conf.specs.Description.{description}
use Rattle.survey_conf.specs.Keys.{name, required_keys}
use Rattle.survey_conf.specs.Entries.{Entries, is_there, line_of, read_as, value_of}
use Rattle.survey_conf.specs.Faults.{fault_together, is_blank_of_depth, has_stray_rule}
use Rattle.survey_conf.proofs.LineLemmas.{not_true}
use Rattle.std.proofs.lemmas.Bool.{and_parts}
use Rattle.survey_conf.specs.declared.fault.ConfKind.TheVariants.{Missing, Range, Unknown}
use Rattle.survey_conf.specs.declared.key.Key.{Key}
use Rattle.survey_conf.specs.declared.key.Key.TheVariants.{SurveyBitpix, SurveyBlank, SurveyRule}

abbrev pub is_complete : Entries → Bool
is_complete es = list_all (λ key. is_there es (name key)) required_keys

pub together-missing : (es : Entries) → is_complete es ≡ false → fault_together es ≡ Some (record { line = 0; kind = Missing })
unfolding fault_together
together-missing es e = rw e refl

pub together-blank : (es : Entries) → is_complete es ≡ true → is_blank_of_depth es ≡ false → fault_together es ≡ Some (record { line = line_of es SurveyBlank; kind = Range })
unfolding fault_together
together-blank es e f = rw (e, f) refl

pub together-rule : (es : Entries) → is_complete es ≡ true → is_blank_of_depth es ≡ true → has_stray_rule es ≡ true → fault_together es ≡ Some (record { line = line_of es SurveyRule; kind = Unknown })
unfolding fault_together
together-rule es e f g = rw (e, f, g) refl

pub together-none : (es : Entries) → is_complete es ≡ true → is_blank_of_depth es ≡ true → has_stray_rule es ≡ false → fault_together es ≡ None
unfolding fault_together
together-none es e f g = rw (e, f, g) refl

-- a number that is read passes the test that is asked of it
pub natural_that-passes : (test : ℕ → Bool) (value : List ℕ) → IfSome (natural_that test value) (λ n. test n ≡ true)
natural_that-passes test value = by (natural value)
  where
    at : (n : ℕ) (b : Bool) → test n ≡ b → IfSome (cond b (Some n) None) (λ n. test n ≡ true)
    at n true e = e
    at n false e = tt

    by : (o : Option ℕ) → IfSome (option_and_then (λ n. cond (test n) (Some n) None) o) (λ n. test n ≡ true)
    by None = tt
    by (Some n) = at n (test n) refl

-- what is read of a key passes a test that what is read of texts and the default pass
pub read_as-passes : (test : ℕ → Bool) (default : ℕ) (es : Entries) (key : Key) → test default ≡ true → test (read_as (natural_that test) default es key) ≡ true
read_as-passes test default es key d = by (value_of es key)
  where
    at : (o : Option ℕ) → IfSome o (λ n. test n ≡ true) → test (unwrap_or o default) ≡ true
    at None h = d
    at (Some n) h = h

    by : (o : Option (List ℕ)) → test (unwrap_or (option_and_then (natural_that test) o) default) ≡ true
    by None = d
    by (Some value) = at (natural_that test value) (natural_that-passes test value)

pub bits-known : (es : Entries) → IsTrue (is_bitpix (read_as bitpix 8 es SurveyBitpix))
bits-known es = read_as-passes is_bitpix 8 es SurveyBitpix refl

-- the test of the blank number
pub blank-number : (bits : ℕ) (blank : ℤ) → (int_le (least_number bits) blank && int_le blank (greatest_number bits)) ≡ true → IsNumber bits blank
blank-number bits blank e =
    let parts = and_parts (int_le (least_number bits) blank) (int_le blank (greatest_number bits)) e in
    let low : int_le (least_number bits) blank ≡ true = parts.0 in
    let high : int_le blank (greatest_number bits) ≡ true = parts.1 in
    record { low = grind (arith, ints); high = grind (arith, ints) }

number-blank : (bits : ℕ) (blank : ℤ) → IsNumber bits blank → (int_le (least_number bits) blank && int_le blank (greatest_number bits)) ≡ true
number-blank bits blank h =
    let low : int_le (least_number bits) blank ≡ true = grind (arith, ints, h.low) in
    let high : int_le blank (greatest_number bits) ≡ true = grind (arith, ints, h.high) in
    rw (low, high) refl

-- what a depth tells of the blank number
pub blank-from_depth : (es : Entries) (bits : ℕ) (blank : ℤ) (r : Option PixelDepth) → bits ≡ read_as bitpix 8 es SurveyBitpix → blank ≡ read_as whole (pos 0) es SurveyBlank
    → (IsSome r ↔ (IsTrue (is_bitpix bits) × IsNumber bits blank)) → MatchOption r (is_blank_of_depth es ≡ false) (λ d. is_blank_of_depth es ≡ true)
blank-from_depth es bits blank r b k known =
    subst (λ bits. (IsSome r ↔ (IsTrue (is_bitpix bits) × IsNumber bits blank)) → MatchOption r (is_blank_of_depth es ≡ false) (λ d. is_blank_of_depth es ≡ true)) (sym b)
    (subst (λ blank. (IsSome r ↔ (IsTrue (is_bitpix (read_as bitpix 8 es SurveyBitpix)) × IsNumber (read_as bitpix 8 es SurveyBitpix) blank)) → MatchOption r (is_blank_of_depth es ≡ false) (λ d. is_blank_of_depth es ≡ true)) (sym k)
    (by r)) known
  where
    by : (r : Option PixelDepth) → (IsSome r ↔ (IsTrue (is_bitpix (read_as bitpix 8 es SurveyBitpix)) × IsNumber (read_as bitpix 8 es SurveyBitpix) (read_as whole (pos 0) es SurveyBlank)))
        → MatchOption r (is_blank_of_depth es ≡ false) (λ d. is_blank_of_depth es ≡ true)
    by None known = not_true (is_blank_of_depth es) (λ yes. true≢false (sym (known.1 (bits-known es, blank-number _ _ yes))))
    by (Some d) known = let some : IsSome (Some d) = refl in number-blank _ _ (known.0 some).1

pub depth-parts : (es : Entries) (bits : ℕ) (blank : ℤ) (r : Option PixelDepth) → bits ≡ read_as bitpix 8 es SurveyBitpix → blank ≡ read_as whole (pos 0) es SurveyBlank
    → MatchOption r (is_blank_of_depth es ≡ false) (λ d. is_blank_of_depth es ≡ true) → IfSome r (λ d. d.bitpix ≡ bits) → IfSome r (λ d. d.blank ≡ blank)
    → MatchOption r (is_blank_of_depth es ≡ false) (λ d. (is_blank_of_depth es ≡ true) × (d.bitpix ≡ read_as bitpix 8 es SurveyBitpix) × (d.blank ≡ read_as whole (pos 0) es SurveyBlank))
depth-parts es bits blank None b k h i j = h
depth-parts es bits blank (Some d) b k h i j = (h, i ∙ b, j ∙ k)

pub depth-described : (es : Entries) (bits : ℕ) (blank : ℤ) (way : Combine) → bits ≡ read_as bitpix 8 es SurveyBitpix → blank ≡ read_as whole (pos 0) es SurveyBlank → way ≡ read_as combine Mean es SurveyRule
    → record { bitpix = bits; blank = blank; combine = way } ≡ (description es).shape.depth
unfolding description
depth-described es bits blank way b k w i = record { bitpix = b i; blank = k i; combine = w i }
