-- The value of each known key is found among the keys and values of a description.
use Rattle.std.proofs.Common.{◌≡◌, ℕ, ◌+◌, ◌^◌, append-nil, Bool, true, false, ◌==◌, if◌then◌else◌, List, [], ◌∷◌, ◌++◌, map, Option, Some, None, is_some, codes, decimal, refl, ap, ap₂, ◌∙◌, bytes_eq, filter}
use Rattle.std.specs.Fmt.{signed_decimal}
use Rattle.std.specs.List.{AllByRecursion}
use Rattle.std.specs.Map.{lookup}
use Rattle.std.proofs.lemmas.List.Elements.{filter-append}
use Rattle.decimal_scale.specs.Real.{real_text}
use Rattle.parent_rule.specs.declared.combine.Combine.{Combine}
use Rattle.survey_conf.specs.Keys.{name, known, is_extra_key}
use Rattle.survey_conf.specs.Entries.{Entries, Setting, value_of, is_there}
use Rattle.survey_conf.specs.Description.{Description, IsDescription, is_extra, extras_of}
use Rattle.survey_conf.specs.Properties.{hips_pairs, survey_pairs, version_pairs, description_pairs, rule}
use Rattle.survey_conf.specs.declared.key.Key.{Key}
use Rattle.survey_conf.specs.declared.key.Key.TheVariants.{CreatorDid, ObsTitle, HipsReleaseDate, HipsStatus, HipsOrder, HipsOrderMin, HipsTileWidth, SurveyBitpix, SurveyBscale, SurveyBzero, SurveyBlank, SurveyVersion, SurveyRule, DataproductType, HipsVersion, HipsFrame, HipsTileFormat}
use Rattle.survey_conf.proofs.RoundTripEntries.{settings, lookup_settings, there_settings}
use Rattle.survey_conf.proofs.RoundTripKeys.{other_name, extra_known, extra_key}
use Rattle.survey_conf.proofs.RoundTripPairs.{pairs_are, all_extras}

-- the value of a key among those before the extra keys, or else the value o
abbrev at_front : Description → Key → Option (List ℕ) → Option (List ℕ)
at_front d CreatorDid o = Some (d.creator_did)
at_front d ObsTitle o = Some (d.obs_title)
at_front d HipsReleaseDate o = Some (d.hips_release_date)
at_front d HipsStatus o = Some (d.hips_status)
at_front d HipsOrder o = Some (decimal d.shape.top)
at_front d HipsOrderMin o = Some (decimal d.shape.low)
at_front d HipsTileWidth o = Some (decimal (2 ^ d.shape.n))
at_front d SurveyBitpix o = o
at_front d SurveyBscale o = o
at_front d SurveyBzero o = o
at_front d SurveyBlank o = o
at_front d SurveyVersion o = o
at_front d SurveyRule o = o
at_front d DataproductType o = Some (codes "image")
at_front d HipsVersion o = Some (codes "1.4")
at_front d HipsFrame o = Some (codes "equatorial")
at_front d HipsTileFormat o = Some (codes "fits")

abbrev at_back : Description → Key → Option (List ℕ) → Option (List ℕ)
at_back d CreatorDid o = o
at_back d ObsTitle o = o
at_back d HipsReleaseDate o = o
at_back d HipsStatus o = o
at_back d HipsOrder o = o
at_back d HipsOrderMin o = o
at_back d HipsTileWidth o = o
at_back d SurveyBitpix o = Some (decimal d.shape.depth.bitpix)
at_back d SurveyBscale o = Some (real_text d.bscale)
at_back d SurveyBzero o = Some (real_text d.bzero)
at_back d SurveyBlank o = Some (signed_decimal d.shape.depth.blank)
at_back d SurveyVersion o = o
at_back d SurveyRule o = o
at_back d DataproductType o = o
at_back d HipsVersion o = o
at_back d HipsFrame o = o
at_back d HipsTileFormat o = o

abbrev at_rest : Bool → Combine → Key → Option (List ℕ)
at_rest false c k = None
at_rest true c SurveyVersion = Some (codes "2")
at_rest true c SurveyRule = Some (rule c)
at_rest true c k = None

-- the value that is written of a known key
abbrev pub found : Description → Key → Option (List ℕ)
found d k = at_front d k (at_back d k (at_rest (d.version == 2) d.shape.depth.combine k))

in_front : (d : Description) (rest : List (List ℕ × List ℕ)) (k : Key) → lookup (bytes_eq (name k)) (hips_pairs d ++ rest) ≡ at_front d k (lookup (bytes_eq (name k)) rest)
in_front d rest CreatorDid = refl
in_front d rest ObsTitle = refl
in_front d rest HipsReleaseDate = refl
in_front d rest HipsStatus = refl
in_front d rest HipsOrder = refl
in_front d rest HipsOrderMin = refl
in_front d rest HipsTileWidth = refl
in_front d rest SurveyBitpix = refl
in_front d rest SurveyBscale = refl
in_front d rest SurveyBzero = refl
in_front d rest SurveyBlank = refl
in_front d rest SurveyVersion = refl
in_front d rest SurveyRule = refl
in_front d rest DataproductType = refl
in_front d rest HipsVersion = refl
in_front d rest HipsFrame = refl
in_front d rest HipsTileFormat = refl

in_back : (d : Description) (rest : List (List ℕ × List ℕ)) (k : Key) → lookup (bytes_eq (name k)) (survey_pairs d ++ rest) ≡ at_back d k (lookup (bytes_eq (name k)) rest)
in_back d rest CreatorDid = refl
in_back d rest ObsTitle = refl
in_back d rest HipsReleaseDate = refl
in_back d rest HipsStatus = refl
in_back d rest HipsOrder = refl
in_back d rest HipsOrderMin = refl
in_back d rest HipsTileWidth = refl
in_back d rest SurveyBitpix = refl
in_back d rest SurveyBscale = refl
in_back d rest SurveyBzero = refl
in_back d rest SurveyBlank = refl
in_back d rest SurveyVersion = refl
in_back d rest SurveyRule = refl
in_back d rest DataproductType = refl
in_back d rest HipsVersion = refl
in_back d rest HipsFrame = refl
in_back d rest HipsTileFormat = refl

in_rest : (b : Bool) (c : Combine) (k : Key) → lookup (bytes_eq (name k)) (if b then (name SurveyVersion, codes "2") ∷ (name SurveyRule, rule c) ∷ [] else []) ≡ at_rest b c k
in_rest false c k = refl
in_rest true c CreatorDid = refl
in_rest true c ObsTitle = refl
in_rest true c HipsReleaseDate = refl
in_rest true c HipsStatus = refl
in_rest true c HipsOrder = refl
in_rest true c HipsOrderMin = refl
in_rest true c HipsTileWidth = refl
in_rest true c SurveyBitpix = refl
in_rest true c SurveyBscale = refl
in_rest true c SurveyBzero = refl
in_rest true c SurveyBlank = refl
in_rest true c SurveyVersion = refl
in_rest true c SurveyRule = refl
in_rest true c DataproductType = refl
in_rest true c HipsVersion = refl
in_rest true c HipsFrame = refl
in_rest true c HipsTileFormat = refl

past_extras : (k : Key) (extras rest : List (List ℕ × List ℕ)) → AllByRecursion (λ e. is_extra e ≡ true) extras → lookup (bytes_eq (name k)) (extras ++ rest) ≡ lookup (bytes_eq (name k)) rest
past_extras k [] rest h = refl
past_extras k (e ∷ extras) rest h = rw (other_name e.0 k (extra_known e.0 (extra_key e h.0))) (past_extras k extras rest h.1)

lookup_found : (d : Description) → IsDescription d → (k : Key) → lookup (bytes_eq (name k)) (description_pairs d) ≡ found d k
lookup_found d h k =
    let rest : List (List ℕ × List ℕ) = survey_pairs d ++ version_pairs d in
    ap (lookup (bytes_eq (name k))) (pairs_are d)
    ∙ in_front d (d.extras ++ rest) k
    ∙ ap (at_front d k) (past_extras k d.extras rest (all_extras d h) ∙ in_back d (version_pairs d) k
    ∙ ap (at_back d k) (in_rest (d.version == 2) d.shape.depth.combine k))

pub value_found : (d : Description) → IsDescription d → (k : Key) → value_of (settings 1 (description_pairs d)) k ≡ found d k
value_found d h k = lookup_settings (bytes_eq (name k)) 1 (description_pairs d) ∙ lookup_found d h k

pub there_found : (d : Description) → IsDescription d → (k : Key) → is_there (settings 1 (description_pairs d)) (name k) ≡ is_some (found d k)
there_found d h k = there_settings (bytes_eq (name k)) 1 (description_pairs d) ∙ ap is_some (lookup_found d h k)

-- ---- the extra keys

abbrev pair_of : List ℕ × Setting → List ℕ × List ℕ
pair_of e = (e.0, e.1.value)

kept_step : (b : Bool) (e : List ℕ × Setting) (es : Entries) (pairs : List (List ℕ × List ℕ)) → map pair_of es ≡ pairs
    → map pair_of (if b then e ∷ es else es) ≡ (if b then pair_of e ∷ pairs else pairs)
kept_step true e es pairs h = ap (λ (rest : List (List ℕ × List ℕ)). pair_of e ∷ rest) h
kept_step false e es pairs h = h

kept_settings : (n : ℕ) (pairs : List (List ℕ × List ℕ)) → extras_of (settings n pairs) ≡ filter (λ e. is_extra_key e.0) pairs
unfolding settings
kept_settings n [] = refl
kept_settings n (p ∷ pairs) =
    kept_step (is_extra_key p.0) (p.0, record { line = n; value = p.1 }) (filter (λ e. is_extra_key e.0) (settings (n + 1) pairs)) (filter (λ e. is_extra_key e.0) pairs)
    (kept_settings (n + 1) pairs)

front_kept : (d : Description) → filter (λ e. is_extra_key e.0) (hips_pairs d) ≡ []
unfolding known
front_kept d = refl

back_kept : (d : Description) → filter (λ e. is_extra_key e.0) (survey_pairs d) ≡ []
unfolding known
back_kept d = refl

rest_kept : (b : Bool) (c : Combine) → filter {X = List ℕ × List ℕ} (λ e. is_extra_key e.0) (if b then (name SurveyVersion, codes "2") ∷ (name SurveyRule, rule c) ∷ [] else []) ≡ []
unfolding known
rest_kept true c = refl
rest_kept false c = refl

all_kept : (extras : List (List ℕ × List ℕ)) → AllByRecursion (λ e. is_extra e ≡ true) extras → filter (λ e. is_extra_key e.0) extras ≡ extras
all_kept [] h = refl
all_kept (e ∷ extras) h = rw (extra_key e h.0) (ap (λ (rest : List (List ℕ × List ℕ)). e ∷ rest) (all_kept extras h.1))

pub extras_found : (d : Description) → IsDescription d → extras_of (settings 1 (description_pairs d)) ≡ d.extras
extras_found d h =
    let test = λ (e : List ℕ × List ℕ). is_extra_key e.0 in
    kept_settings 1 (description_pairs d)
    ∙ ap (filter test) (pairs_are d)
    ∙ filter-append test (hips_pairs d) (d.extras ++ (survey_pairs d ++ version_pairs d))
    ∙ ap₂ (λ (xs ys : List (List ℕ × List ℕ)). xs ++ ys) (front_kept d) (filter-append test d.extras (survey_pairs d ++ version_pairs d)
    ∙ ap₂ (λ (xs ys : List (List ℕ × List ℕ)). xs ++ ys) (all_kept d.extras (all_extras d h)) (filter-append test (survey_pairs d) (version_pairs d)
    ∙ ap₂ (λ (xs ys : List (List ℕ × List ℕ)). xs ++ ys) (back_kept d) (rest_kept (d.version == 2) d.shape.depth.combine))
    ∙ append-nil d.extras)
