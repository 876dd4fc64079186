-- The text of a description has no fault, and describes the same.
use Rattle.std.proofs.Common.{◌≡◌, ℕ, ◌≤◌, ◌^◌, true, false, ◌&&◌, ◌==◌, eqb-true, List, pos, Option, Some, None, is_some, codes, decimal, refl, sym, ap, ◌∙◌, inl, inr, arith}
use Rattle.std.specs.Fmt.{signed_decimal}
use Rattle.std.specs.List.{list_all}
use Rattle.std.proofs.lemmas.Bool.{cases_Bool, eqb-false}
use Rattle.decimal_scale.specs.Real.{real_text, is_whole}
use Rattle.decimal_scale.specs.Whole.{whole_value}
use Rattle.parent_rule.specs.declared.combine.Combine.{Combine}
use Rattle.parent_rule.specs.declared.combine.Combine.TheVariants.{Mean, Median}
use Rattle.survey_conf.specs.Lines.{contents}
use Rattle.survey_conf.specs.Numbers.{whole, natural, order, lowest_order, bitpix, version, width_exponent, real, scale, combine}
use Rattle.survey_conf.specs.Keys.{name, required_keys}
use Rattle.survey_conf.specs.Entries.{Entries, entries, is_there, value_of, read_as}
use Rattle.survey_conf.specs.Description.{Description, IsDescription, description, description_of, extras_of, real_one, real_zero}
use Rattle.survey_conf.specs.Faults.{fault_of, fault_together, first_fault, is_blank_of_depth}
use Rattle.survey_conf.specs.Properties.{description_pairs, description_text, rule}
use Rattle.survey_conf.specs.declared.key.Key.{Key}
use Rattle.survey_conf.specs.declared.key.Key.TheVariants.{CreatorDid, ObsTitle, HipsReleaseDate, HipsStatus, HipsOrder, HipsOrderMin, HipsTileWidth, SurveyBitpix, SurveyBscale, SurveyBzero, SurveyBlank, SurveyVersion, SurveyRule}
use Rattle.survey_conf.proofs.RoundTripLines.{contents_of}
use Rattle.survey_conf.proofs.RoundTripEntries.{settings, entries_of}
use Rattle.survey_conf.proofs.RoundTripFaults.{are_pairs, no_first_fault}
use Rattle.survey_conf.proofs.RoundTripNumbers.{NumbersAreRead, order_read, lowest_order_read, bitpix_read, width_read, blank_read, blank_of_depth, real_read, scale_read}
use Rattle.survey_conf.proofs.RoundTripPairs.{pairs_fine}
use Rattle.survey_conf.proofs.RoundTripDistinct.{pairs_distinct}
use Rattle.survey_conf.proofs.RoundTripFound.{found, value_found, there_found, extras_found}

version_two : version (codes "2") ≡ Some 2
unfolding natural whole whole_value is_whole
version_two = refl

rule_read : (c : Combine) → combine (rule c) ≡ Some c
rule_read Mean = refl
rule_read Median = refl

version_one : (v : ℕ) → 1 ≤ v → v ≤ 2 → (v == 2) ≡ false → v ≡ 1
version_one v low high e = let other = eqb-false v 2 e in omega arith

-- what the lines say of the description
says : Description → Entries
says d = settings 1 (description_pairs d)

module _ (law : NumbersAreRead) (d : Description) (h : IsDescription d) where
  text_says : entries (contents (description_text d)) ≡ says d
  unfolding says
  text_says =
      let pairs = are_pairs (description_pairs d) (pairs_fine law d h) in
      ap entries (contents_of (description_pairs d) pairs) ∙ entries_of (description_pairs d) pairs

  value_said : (k : Key) → value_of (says d) k ≡ found d k
  unfolding says
  value_said k = value_found d h k

  there_said : (k : Key) → is_there (says d) (name k) ≡ is_some (found d k)
  unfolding says
  there_said k = there_found d h k

  extras_said : extras_of (says d) ≡ d.extras
  unfolding says
  extras_said = extras_found d h

  -- a value that is written stands for a field
  stands : {A : Type 0} (stands_for : List ℕ → Option A) (default : A) (k : Key) (text : List ℕ) (x : A)
      → found d k ≡ Some text → stands_for text ≡ Some x → read_as stands_for default (says d) k ≡ x
  stands stands_for default k text x e f = rw (value_said k, e, f) refl

  bitpix_said : read_as bitpix 8 (says d) SurveyBitpix ≡ d.shape.depth.bitpix
  bitpix_said = stands bitpix 8 SurveyBitpix (decimal d.shape.depth.bitpix) d.shape.depth.bitpix refl (bitpix_read law d.shape.depth.bitpix h.bitpix)

  blank_said : read_as whole (pos 0) (says d) SurveyBlank ≡ d.shape.depth.blank
  blank_said = stands whole (pos 0) SurveyBlank (signed_decimal d.shape.depth.blank) d.shape.depth.blank refl (blank_read law d.shape.depth.bitpix d.shape.depth.blank h.bitpix h.blank)

  version_said : read_as version 1 (says d) SurveyVersion ≡ d.version
  version_said =
      elim (cases_Bool (d.version == 2)) [
        | inl e ↦ rw (value_said SurveyVersion, e, version_two) (sym (eqb-true d.version 2 e))
        | inr e ↦ rw (value_said SurveyVersion, e) (sym (version_one d.version h.least_version h.greatest_version e))
      ]

  rule_said : read_as combine Mean (says d) SurveyRule ≡ d.shape.depth.combine
  rule_said =
      elim (cases_Bool (d.version == 2)) [
        | inl e ↦ rw (value_said SurveyRule, e, rule_read d.shape.depth.combine) refl
        | inr e ↦ rw (value_said SurveyRule, e) (sym (h.combine (version_one d.version h.least_version h.greatest_version e)))
      ]

  describes_same : description (says d) ≡ d
  unfolding description
  describes_same = rw (
    value_said CreatorDid,
    value_said ObsTitle,
    value_said HipsReleaseDate,
    value_said HipsStatus,
    stands order 3 HipsOrder (decimal d.shape.top) d.shape.top refl (order_read law d.shape.top h.shape.least_top h.shape.greatest_top),
    stands lowest_order 3 HipsOrderMin (decimal d.shape.low) d.shape.low refl (lowest_order_read law d.shape.low h.shape.low_order),
    stands width_exponent 9 HipsTileWidth (decimal (2 ^ d.shape.n)) d.shape.n refl (width_read law d.shape.n h.shape.least_n h.shape.greatest_n),
    bitpix_said,
    blank_said,
    rule_said,
    stands scale real_one SurveyBscale (real_text d.bscale) d.bscale refl (scale_read law d.bscale h.bscale h.not_zero),
    stands real real_zero SurveyBzero (real_text d.bzero) d.bzero refl (real_read law d.bzero h.bzero),
    version_said,
    extras_said,
  ) refl

  pub same : description_of (description_text d) ≡ d
  same = ap description text_says ∙ describes_same

  blank_in_depth : is_blank_of_depth (says d) ≡ true
  blank_in_depth = rw (bitpix_said, blank_said) (blank_of_depth d.shape.depth.bitpix d.shape.depth.blank h.blank)

  rule_in_version : (is_there (says d) (name SurveyRule) && (read_as version 1 (says d) SurveyVersion == 1)) ≡ false
  rule_in_version = elim (cases_Bool (d.version == 2)) [
    | inl e ↦ rw (version_said, there_said SurveyRule, eqb-true d.version 2 e) refl
    | inr e ↦ rw (there_said SurveyRule, e) refl
  ]

  all_there : list_all (λ key. is_there (says d) (name key)) required_keys ≡ true
  all_there = rw (there_said CreatorDid, there_said ObsTitle, there_said HipsReleaseDate, there_said HipsStatus, there_said HipsOrder, there_said SurveyBitpix, there_said SurveyBlank) refl

  together : fault_together (says d) ≡ None
  unfolding fault_together
  together = rw (all_there, blank_in_depth, rule_in_version) refl

  pub accepted : fault_of (description_text d) ≡ None
  unfolding fault_of
  accepted =
      let fine = pairs_fine law d h in
      let none : first_fault (contents (description_text d)) ≡ None =
      ap first_fault (contents_of (description_pairs d) (are_pairs (description_pairs d) fine))
      ∙ no_first_fault (description_pairs d) fine (pairs_distinct d h) in
      rw (none, text_says) together
