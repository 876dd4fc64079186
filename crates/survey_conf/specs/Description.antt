-- What a description says, as contracts see a `Conf`.
use Rattle.std.specs.Prelude.{◌≡◌, ℕ, ◌≤◌, Bool, true, ◌&&◌, not, List, [], ◌∷◌, pos, unwrap_or, map, filter, IsTrue, Option, Some, None}
use Rattle.std.specs.List.{list_all, list_any}
use Rattle.std.specs.Map.{keys_of, lookup}
use Rattle.std.specs.Str.{bytes_eq}
use Rattle.decimal_scale.specs.Real.{DecimalNumber, IsNormal}
use Rattle.parent_rule.specs.Depth.{is_bitpix, IsNumber}
use Rattle.parent_rule.specs.declared.combine.Combine.TheVariants.{Mean}
use Rattle.pyramid_model.specs.Shape.{PyramidShape, IsShape}
use Rattle.survey_conf.specs.Lines.{contents, trimmed, is_key, is_value}
use Rattle.survey_conf.specs.Numbers.{whole, order, lowest_order, bitpix, version, width_exponent, real, scale, combine, not_zero}
use Rattle.survey_conf.specs.Keys.{is_extra_key, known}
use Rattle.survey_conf.specs.Entries.{Entries, entries, value_of, read_as}
use Rattle.survey_conf.specs.declared.key.Key.{Key}
use Rattle.survey_conf.specs.declared.key.Key.TheVariants.{CreatorDid, ObsTitle, HipsReleaseDate, HipsStatus, HipsOrder, HipsOrderMin, HipsTileWidth, SurveyBitpix, SurveyBscale, SurveyBzero, SurveyBlank, SurveyVersion, SurveyRule}

-- the values of four keys of HiPS 1.0, the shape of the pyramid, the scale and the zero of the stored numbers, the version
-- of the description, and the extra keys with their values in the order of their lines
pub record Description : Type 0 where
  pub creator_did : List ℕ
  pub obs_title : List ℕ
  pub hips_release_date : List ℕ
  pub hips_status : List ℕ
  pub shape : PyramidShape
  pub bscale : DecimalNumber
  pub bzero : DecimalNumber
  pub version : ℕ
  pub extras : List (List ℕ × List ℕ)

-- the extra keys of a description
abbrev pub extras_of : Entries → List (List ℕ × List ℕ)
extras_of es = map (λ e. (e.0, e.1.value)) (filter (λ e. is_extra_key e.0) es)

-- the reals 1 and 0
abbrev pub real_one : DecimalNumber
real_one = record { mantissa = pos 1; exp = pos 0 }

abbrev pub real_zero : DecimalNumber
real_zero = record { mantissa = pos 0; exp = pos 0 }

-- what lines without a fault describe; a key that is not there has its default
unfoldable pub description : Entries → Description
description es = record {
  creator_did = unwrap_or (value_of es CreatorDid) [];
  obs_title = unwrap_or (value_of es ObsTitle) [];
  hips_release_date = unwrap_or (value_of es HipsReleaseDate) [];
  hips_status = unwrap_or (value_of es HipsStatus) [];
  shape = record {
    top = read_as order 3 es HipsOrder;
    low = read_as lowest_order 3 es HipsOrderMin;
    n = read_as width_exponent 9 es HipsTileWidth;
    depth = record {
      bitpix = read_as bitpix 8 es SurveyBitpix;
      blank = read_as whole (pos 0) es SurveyBlank;
      combine = read_as combine Mean es SurveyRule;
    };
  };
  bscale = read_as scale real_one es SurveyBscale;
  bzero = read_as real real_zero es SurveyBzero;
  version = read_as version 1 es SurveyVersion;
  extras = extras_of es;
}

abbrev pub description_of : List ℕ → Description
description_of text = description (entries (contents text))

-- ---- what every description keeps

-- a value as it stands in a line
abbrev pub is_written_value : List ℕ → Bool
is_written_value value = is_value value && bytes_eq (trimmed value) value

abbrev pub is_extra : List ℕ × List ℕ → Bool
is_extra e = is_key e.0 && is_extra_key e.0 && is_written_value e.1

-- no key stands twice
abbrev pub are_distinct : List (List ℕ) → Bool
are_distinct [] = true
are_distinct (key ∷ keys) = not (list_any (bytes_eq key) keys) && are_distinct keys

pub record IsDescription (d : Description) : Type 0 where
  pub creator_did : is_written_value d.creator_did ≡ true
  pub obs_title : is_written_value d.obs_title ≡ true
  pub hips_release_date : is_written_value d.hips_release_date ≡ true
  pub hips_status : is_written_value d.hips_status ≡ true
  pub shape : IsShape d.shape.top d.shape.low d.shape.n
  pub bitpix : IsTrue (is_bitpix d.shape.depth.bitpix)
  pub blank : IsNumber d.shape.depth.bitpix d.shape.depth.blank
  pub bscale : IsNormal d.bscale
  pub not_zero : not_zero d.bscale ≡ true
  pub bzero : IsNormal d.bzero
  pub least_version : 1 ≤ d.version
  pub greatest_version : d.version ≤ 2
  pub combine : d.version ≡ 1 → d.shape.depth.combine ≡ Mean
  pub extras : list_all is_extra d.extras ≡ true
  pub distinct : are_distinct (keys_of d.extras) ≡ true

-- ---- what is asked of a description

-- the value of one of the four keys, or of an extra key
abbrev pub value_by : Description → List ℕ → Option Key → Option (List ℕ)
value_by d key (Some CreatorDid) = Some d.creator_did
value_by d key (Some ObsTitle) = Some d.obs_title
value_by d key (Some HipsReleaseDate) = Some d.hips_release_date
value_by d key (Some HipsStatus) = Some d.hips_status
value_by d key (Some _) = None
value_by d key None = lookup (bytes_eq key) d.extras

abbrev pub value_at : Description → List ℕ → Option (List ℕ)
value_at d key = value_by d key (known key)
