-- The keys and values of a description: each is fine by itself, no key stands twice, and each is found again.
use Rattle.std.proofs.Common.{◌≡◌, ℕ, ◌≤◌, ◌^◌, Bool, true, false, ◌==◌, if◌then◌else◌, List, [], ◌∷◌, ◌++◌, append_assoc, codes, decimal, refl, ◌∙◌, arith}
use Rattle.std.specs.Fmt.{signed_decimal}
use Rattle.std.specs.List.{AllByRecursion}
use Rattle.decimal_scale.specs.Real.{real_text, is_whole}
use Rattle.decimal_scale.specs.Whole.{whole_value}
use Rattle.parent_rule.specs.declared.combine.Combine.{Combine}
use Rattle.parent_rule.specs.declared.combine.Combine.TheVariants.{Mean, Median}
use Rattle.survey_conf.specs.Lines.{trimmed, is_value}
use Rattle.survey_conf.specs.Numbers.{whole, natural}
use Rattle.survey_conf.specs.Keys.{name, takes}
use Rattle.survey_conf.specs.Description.{Description, IsDescription, is_written_value, is_extra}
use Rattle.survey_conf.specs.Properties.{hips_pairs, survey_pairs, version_pairs, description_pairs, rule}
use Rattle.survey_conf.specs.declared.key.Key.{Key}
use Rattle.survey_conf.specs.declared.key.Key.TheVariants.{CreatorDid, ObsTitle, HipsReleaseDate, HipsStatus, HipsOrder, HipsOrderMin, HipsTileWidth, SurveyBitpix, SurveyBscale, SurveyBzero, SurveyBlank, SurveyVersion, SurveyRule, DataproductType, HipsVersion, HipsFrame, HipsTileFormat}
use Rattle.survey_conf.proofs.RoundTripLines.{all_pass, all_weaker, all_append}
use Rattle.survey_conf.proofs.RoundTripFaults.{IsFine}
use Rattle.survey_conf.proofs.RoundTripNumbers.{NumbersAreRead, IsWord, word_value, word_bare, order_read, lowest_order_read, bitpix_read, bitpix_small, width_read, width_small, blank_read, real_read, scale_read, real_word, blank_word, small_word}
use Rattle.survey_conf.proofs.RoundTripKeys.{named_fine, written_value, extra_fine}

-- ---- the parts

pub pairs_are : (d : Description) → description_pairs d ≡ hips_pairs d ++ (d.extras ++ (survey_pairs d ++ version_pairs d))
unfolding description_pairs
pairs_are d = append_assoc (hips_pairs d ++ d.extras) (survey_pairs d) (version_pairs d) ∙ append_assoc (hips_pairs d) d.extras (survey_pairs d ++ version_pairs d)

-- ---- each is fine

constant_fine : (k : Key) (value : List ℕ) → is_written_value value ≡ true → takes k value ≡ true → IsFine (name k, value)
constant_fine k value is took = let parts = written_value value is in named_fine k value parts.0 parts.1 took

word_fine : (most : ℕ) (k : Key) (value : List ℕ) → most ≤ 1024 → IsWord most value → takes k value ≡ true → IsFine (name k, value)
word_fine most k value few is took = named_fine k value (word_value most value few is) (word_bare most value is) took

image_fine : IsFine (name DataproductType, codes "image")
unfolding is_value trimmed
image_fine = constant_fine DataproductType (codes "image") refl refl

standard_fine : IsFine (name HipsVersion, codes "1.4")
unfolding is_value trimmed
standard_fine = constant_fine HipsVersion (codes "1.4") refl refl

frame_fine : IsFine (name HipsFrame, codes "equatorial")
unfolding is_value trimmed
frame_fine = constant_fine HipsFrame (codes "equatorial") refl refl

format_fine : IsFine (name HipsTileFormat, codes "fits")
unfolding is_value trimmed
format_fine = constant_fine HipsTileFormat (codes "fits") refl refl

version_fine : IsFine (name SurveyVersion, codes "2")
unfolding is_value trimmed natural whole whole_value is_whole
version_fine = constant_fine SurveyVersion (codes "2") refl refl

rule_fine : (c : Combine) → IsFine (name SurveyRule, rule c)
unfolding is_value trimmed
rule_fine Mean = constant_fine SurveyRule (codes "mean") refl refl
rule_fine Median = constant_fine SurveyRule (codes "median") refl refl

front_fine : NumbersAreRead → (d : Description) → IsDescription d → AllByRecursion IsFine (hips_pairs d)
front_fine law d h =
    let low = h.shape.low_order in
    let top = h.shape.greatest_top in (
      constant_fine CreatorDid d.creator_did h.creator_did refl,
      (
        constant_fine ObsTitle d.obs_title h.obs_title refl,
        (
          image_fine,
          (
            standard_fine,
            (
              constant_fine HipsReleaseDate d.hips_release_date h.hips_release_date refl,
              (
                constant_fine HipsStatus d.hips_status h.hips_status refl,
                (
                  frame_fine,
                  (
                    word_fine 19 HipsOrder (decimal d.shape.top) (omega arith) (small_word d.shape.top (omega arith)) (rw (order_read law d.shape.top h.shape.least_top h.shape.greatest_top) refl),
                    (
                      word_fine 19 HipsOrderMin (decimal d.shape.low) (omega arith) (small_word d.shape.low (omega arith)) (rw (lowest_order_read law d.shape.low h.shape.low_order) refl),
                      (
                        word_fine 19 HipsTileWidth (decimal (2 ^ d.shape.n)) (omega arith) (small_word (2 ^ d.shape.n) (width_small d.shape.n h.shape.greatest_n)) (rw (width_read law d.shape.n h.shape.least_n h.shape.greatest_n) refl),
                        (format_fine, tt),
                      ),
                    ),
                  ),
                ),
              ),
            ),
          ),
        ),
      ),
    )

back_fine : NumbersAreRead → (d : Description) → IsDescription d → AllByRecursion IsFine (survey_pairs d)
back_fine law d h =
    let depth = d.shape.depth in
    let small = bitpix_small depth.bitpix h.bitpix in (
      word_fine 19 SurveyBitpix (decimal depth.bitpix) (omega arith) (small_word depth.bitpix (omega arith)) (rw (bitpix_read law depth.bitpix h.bitpix) refl),
      (
        word_fine 43 SurveyBscale (real_text d.bscale) (omega arith) (real_word d.bscale h.bscale) (rw (scale_read law d.bscale h.bscale h.not_zero) refl),
        (
          word_fine 43 SurveyBzero (real_text d.bzero) (omega arith) (real_word d.bzero h.bzero) (rw (real_read law d.bzero h.bzero) refl),
          (word_fine 20 SurveyBlank (signed_decimal depth.blank) (omega arith) (blank_word depth.bitpix depth.blank h.bitpix h.blank) (rw (blank_read law depth.bitpix depth.blank h.bitpix h.blank) refl), tt),
        ),
      ),
    )

rest_fine : (b : Bool) (c : Combine) → AllByRecursion IsFine (if b then (name SurveyVersion, codes "2") ∷ (name SurveyRule, rule c) ∷ [] else [])
rest_fine true c = (version_fine, (rule_fine c, tt))
rest_fine false c = tt

pub all_extras : (d : Description) → IsDescription d → AllByRecursion (λ e. is_extra e ≡ true) d.extras
all_extras d h = all_pass is_extra d.extras h.extras

pub pairs_fine : NumbersAreRead → (d : Description) → IsDescription d → AllByRecursion IsFine (description_pairs d)
pairs_fine law d h =
    rw (pairs_are d)
    (all_append IsFine (hips_pairs d) (d.extras ++ (survey_pairs d ++ version_pairs d)) (front_fine law d h)
    (all_append IsFine d.extras (survey_pairs d ++ version_pairs d) (all_weaker (λ e. is_extra e ≡ true) IsFine d.extras extra_fine (all_extras d h))
    (all_append IsFine (survey_pairs d) (version_pairs d) (back_fine law d h) (rest_fine (d.version == 2) d.shape.depth.combine))))
