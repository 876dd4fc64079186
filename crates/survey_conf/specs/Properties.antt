-- The properties file of a survey (HiPS 1.0, section 4.4.1): one line `key = value` for each key. The order, and the keys
-- hips_order_min and those that begin with `survey_`, are this project's profile.
use Rattle.std.specs.Prelude.{ℕ, ◌^◌, ◌==◌, if◌then◌else◌, List, [], ◌∷◌, ◌++◌, codes, decimal}
use Rattle.std.specs.List.{flat_map}
use Rattle.std.specs.Fmt.{signed_decimal}
use Rattle.decimal_scale.specs.Real.{real_text}
use Rattle.parent_rule.specs.declared.combine.Combine.{Combine}
use Rattle.parent_rule.specs.declared.combine.Combine.TheVariants.{Mean, Median}
use Rattle.survey_conf.specs.Keys.{name}
use Rattle.survey_conf.specs.Description.{Description}
use Rattle.survey_conf.specs.declared.key.Key.TheVariants.{CreatorDid, ObsTitle, HipsReleaseDate, HipsStatus, HipsOrder, HipsOrderMin, HipsTileWidth, SurveyBitpix, SurveyBscale, SurveyBzero, SurveyBlank, SurveyVersion, SurveyRule, DataproductType, HipsVersion, HipsFrame, HipsTileFormat}

-- a key and its value as a line, which ends in a line feed
abbrev pub line : List ℕ × List ℕ → List ℕ
line pair = pair.0 ++ codes " = " ++ pair.1 ++ 10 ∷ []

abbrev pub rule : Combine → List ℕ
rule Mean = codes "mean"
rule Median = codes "median"

-- only version 2 says its version and the way to combine
abbrev pub version_pairs : Description → List (List ℕ × List ℕ)
version_pairs d = if d.version == 2
    then (name SurveyVersion, codes "2") ∷ (name SurveyRule, rule d.shape.depth.combine) ∷ []
    else []

-- the keys up to hips_tile_format, and those from survey_bitpix on
abbrev pub hips_pairs : Description → List (List ℕ × List ℕ)
hips_pairs d =
    (name CreatorDid, d.creator_did)
    ∷ (name ObsTitle, d.obs_title)
    ∷ (name DataproductType, codes "image")
    ∷ (name HipsVersion, codes "1.4")
    ∷ (name HipsReleaseDate, d.hips_release_date)
    ∷ (name HipsStatus, d.hips_status)
    ∷ (name HipsFrame, codes "equatorial")
    ∷ (name HipsOrder, decimal d.shape.top)
    ∷ (name HipsOrderMin, decimal d.shape.low)
    ∷ (name HipsTileWidth, decimal (2 ^ d.shape.n))
    ∷ (name HipsTileFormat, codes "fits")
    ∷ []

abbrev pub survey_pairs : Description → List (List ℕ × List ℕ)
survey_pairs d =
    (name SurveyBitpix, decimal d.shape.depth.bitpix)
    ∷ (name SurveyBscale, real_text d.bscale)
    ∷ (name SurveyBzero, real_text d.bzero)
    ∷ (name SurveyBlank, signed_decimal d.shape.depth.blank)
    ∷ []

-- what a description says, as keys and values
unfoldable pub description_pairs : Description → List (List ℕ × List ℕ)
description_pairs d = hips_pairs d ++ d.extras ++ survey_pairs d ++ version_pairs d

-- the description as a text, which reads as an equal one
abbrev pub description_text : Description → List ℕ
description_text d = flat_map line (description_pairs d)

-- the last line counts the leaf tiles
abbrev pub leaves_pair : ℕ → List ℕ × List ℕ
leaves_pair leaves = (codes "survey_leaves", decimal leaves)

unfoldable pub properties_text : Description → ℕ → List ℕ
properties_text d leaves = description_text d ++ line (leaves_pair leaves)
