-- The keys of a description: which are known, which must be there, and which values they take. Those that begin with
-- `hips_`, and creator_did, obs_title and dataproduct_type, are keys of HiPS 1.0 (section 4.4.1), except for hips_order_min;
-- that one and the `survey_` keys are this project's profile, and so are the values.
use Rattle.std.specs.Prelude.{ℕ, Bool, true, false, is_some, is_none, not, ◌&&◌, List, [], ◌∷◌, Option, find, filter, codes, nat_eq}
use Rattle.std.specs.List.{starts_with}
use Rattle.std.specs.Option.{option_map_or}
use Rattle.std.specs.Str.{bytes_eq}
use Rattle.survey_conf.specs.Numbers.{whole, order, lowest_order, bitpix, version, width_exponent, real, scale, combine}
use Rattle.survey_conf.specs.declared.key.Key.{Key}
use Rattle.survey_conf.specs.declared.key.Key.TheVariants.{CreatorDid, ObsTitle, HipsReleaseDate, HipsStatus, HipsOrder, HipsOrderMin, HipsTileWidth, SurveyBitpix, SurveyBscale, SurveyBzero, SurveyBlank, SurveyVersion, SurveyRule, DataproductType, HipsVersion, HipsFrame, HipsTileFormat}

abbrev pub known_keys : List Key
known_keys = CreatorDid ∷ ObsTitle ∷ HipsReleaseDate ∷ HipsStatus ∷ HipsOrder ∷ HipsOrderMin ∷ HipsTileWidth
    ∷ SurveyBitpix ∷ SurveyBscale ∷ SurveyBzero ∷ SurveyBlank ∷ SurveyVersion ∷ SurveyRule
    ∷ DataproductType ∷ HipsVersion ∷ HipsFrame ∷ HipsTileFormat ∷ []

-- how a key is written
abbrev pub name : Key → List ℕ
name CreatorDid = codes "creator_did"
name ObsTitle = codes "obs_title"
name HipsReleaseDate = codes "hips_release_date"
name HipsStatus = codes "hips_status"
name HipsOrder = codes "hips_order"
name HipsOrderMin = codes "hips_order_min"
name HipsTileWidth = codes "hips_tile_width"
name SurveyBitpix = codes "survey_bitpix"
name SurveyBscale = codes "survey_bscale"
name SurveyBzero = codes "survey_bzero"
name SurveyBlank = codes "survey_blank"
name SurveyVersion = codes "survey_version"
name SurveyRule = codes "survey_rule"
name DataproductType = codes "dataproduct_type"
name HipsVersion = codes "hips_version"
name HipsFrame = codes "hips_frame"
name HipsTileFormat = codes "hips_tile_format"

-- the keys that must be there
abbrev pub is_required : Key → Bool
is_required CreatorDid = true
is_required ObsTitle = true
is_required HipsReleaseDate = true
is_required HipsStatus = true
is_required HipsOrder = true
is_required SurveyBitpix = true
is_required SurveyBlank = true
is_required _ = false

abbrev pub required_keys : List Key
required_keys = filter is_required known_keys

-- the values that a key takes; of the number of blank pixels here only that it is a whole number
abbrev pub takes : Key → List ℕ → Bool
takes CreatorDid value = true
takes ObsTitle value = true
takes HipsReleaseDate value = true
takes HipsStatus value = true
takes HipsOrder value = is_some (order value)
takes HipsOrderMin value = is_some (lowest_order value)
takes HipsTileWidth value = is_some (width_exponent value)
takes SurveyBitpix value = is_some (bitpix value)
takes SurveyBscale value = is_some (scale value)
takes SurveyBzero value = is_some (real value)
takes SurveyBlank value = is_some (whole value)
takes SurveyVersion value = is_some (version value)
takes SurveyRule value = is_some (combine value)
takes DataproductType value = bytes_eq value (codes "image")
takes HipsVersion value = bytes_eq value (codes "1.4")
takes HipsFrame value = bytes_eq value (codes "equatorial")
takes HipsTileFormat value = bytes_eq value (codes "fits")

-- the known key that is written so
unfoldable pub known : List ℕ → Option Key
known key = find (λ k. bytes_eq (name k) key) known_keys

-- a key with this project's prefix that is not known; every other key that is not known is an extra key
abbrev pub is_unknown : List ℕ → Bool
is_unknown key = is_none (known key) && starts_with nat_eq key (codes "survey_")

abbrev pub is_extra_key : List ℕ → Bool
is_extra_key key = is_none (known key) && not (starts_with nat_eq key (codes "survey_"))

-- whether the value is one that the key takes; an extra key takes any
abbrev pub is_in_range : List ℕ → List ℕ → Bool
is_in_range key value = option_map_or (λ k. takes k value) (known key) true
