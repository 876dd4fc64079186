-- No key of a description stands twice.
use Rattle.std.proofs.Common.{◌≡◌, ℕ, Bool, true, false, not, ◌==◌, if◌then◌else◌, List, [], ◌∷◌, ◌++◌, codes, None, refl, ap, ◌∙◌, bytes_eq}
use Rattle.std.specs.List.{AllByRecursion, list_any}
use Rattle.std.specs.Map.{keys_of}
use Rattle.std.proofs.lemmas.Bool.{and_parts, and_from, or_from, not_from_false, not-true}
use Rattle.std.proofs.lemmas.List.{map-append}
use Rattle.std.proofs.lemmas.List.Folds.{list_any-append}
use Rattle.parent_rule.specs.declared.combine.Combine.{Combine}
use Rattle.survey_conf.specs.Keys.{name, known}
use Rattle.survey_conf.specs.Description.{Description, IsDescription, is_extra, are_distinct}
use Rattle.survey_conf.specs.Properties.{hips_pairs, survey_pairs, version_pairs, description_pairs, rule}
use Rattle.survey_conf.specs.declared.key.Key.{Key}
use Rattle.survey_conf.specs.declared.key.Key.TheVariants.{CreatorDid, ObsTitle, HipsReleaseDate, HipsStatus, HipsOrder, HipsOrderMin, HipsTileWidth, SurveyBitpix, SurveyBscale, SurveyBzero, SurveyBlank, SurveyVersion, SurveyRule, DataproductType, HipsVersion, HipsFrame, HipsTileFormat}
use Rattle.survey_conf.proofs.RoundTripEntries.{bytes_eq_sym}
use Rattle.survey_conf.proofs.RoundTripKeys.{other_name, extra_known, extra_key}
use Rattle.survey_conf.proofs.RoundTripPairs.{pairs_are, all_extras}

distinct_append : (xs ys : List (List ℕ)) → are_distinct xs ≡ true → are_distinct ys ≡ true → AllByRecursion (λ x. list_any (bytes_eq x) ys ≡ false) xs → are_distinct (xs ++ ys) ≡ true
distinct_append [] ys f g h = g
distinct_append (x ∷ xs) ys f g h =
    let parts = and_parts (not (list_any (bytes_eq x) xs)) (are_distinct xs) f in
    let none : list_any (bytes_eq x) (xs ++ ys) ≡ false =
    list_any-append (bytes_eq x) xs ys
    ∙ or_from (list_any (bytes_eq x) xs) (list_any (bytes_eq x) ys) (not-true (list_any (bytes_eq x) xs) parts.0) h.0 in
    and_from (not (list_any (bytes_eq x) (xs ++ ys))) (are_distinct (xs ++ ys)) (not_from_false (list_any (bytes_eq x) (xs ++ ys)) none) (distinct_append xs ys parts.1 g h.1)

-- ---- the known keys

-- the keys after the extra ones, where the version is said and where it is not
tail : Bool → List (List ℕ)
tail b = name SurveyBitpix ∷ name SurveyBscale ∷ name SurveyBzero ∷ name SurveyBlank ∷ (if b then name SurveyVersion ∷ name SurveyRule ∷ [] else [])

rest_keys : (b : Bool) (c : Combine) → keys_of (if b then (name SurveyVersion, codes "2") ∷ (name SurveyRule, rule c) ∷ [] else []) ≡ (if b then name SurveyVersion ∷ name SurveyRule ∷ [] else [])
rest_keys true c = refl
rest_keys false c = refl

tail_keys : (d : Description) → keys_of (survey_pairs d ++ version_pairs d) ≡ tail (d.version == 2)
unfolding tail
tail_keys d =
    ap (λ (keys : List (List ℕ)). name SurveyBitpix ∷ name SurveyBscale ∷ name SurveyBzero ∷ name SurveyBlank ∷ keys)
    (rest_keys (d.version == 2) d.shape.depth.combine)

tail_distinct : (b : Bool) → are_distinct (tail b) ≡ true
unfolding tail
tail_distinct true = refl
tail_distinct false = refl

front_distinct : (d : Description) → are_distinct (keys_of (hips_pairs d)) ≡ true
front_distinct d = refl

front_tail : (d : Description) (b : Bool) → AllByRecursion (λ key. list_any (bytes_eq key) (tail b) ≡ false) (keys_of (hips_pairs d))
unfolding tail
front_tail d true = (refl, (refl, (refl, (refl, (refl, (refl, (refl, (refl, (refl, (refl, (refl, tt)))))))))))
front_tail d false = (refl, (refl, (refl, (refl, (refl, (refl, (refl, (refl, (refl, (refl, (refl, tt)))))))))))

-- ---- and the extra ones

name_of_none : (key : List ℕ) → known key ≡ None → (b : Bool) → list_any (bytes_eq key) (tail b) ≡ false
unfolding tail
name_of_none key h true =
    let other = λ (k : Key). bytes_eq_sym (name k) key (other_name key k h) in
    rw (other SurveyBitpix, other SurveyBscale, other SurveyBzero, other SurveyBlank, other SurveyVersion, other SurveyRule) refl
name_of_none key h false =
    let other = λ (k : Key). bytes_eq_sym (name k) key (other_name key k h) in
    rw (other SurveyBitpix, other SurveyBscale, other SurveyBzero, other SurveyBlank) refl

extras_tail : (extras : List (List ℕ × List ℕ)) (b : Bool) → AllByRecursion (λ e. is_extra e ≡ true) extras → AllByRecursion (λ key. list_any (bytes_eq key) (tail b) ≡ false) (keys_of extras)
extras_tail [] b h = tt
extras_tail (e ∷ extras) b h = (name_of_none e.0 (extra_known e.0 (extra_key e h.0)) b, extras_tail extras b h.1)

no_extra : (k : Key) (extras : List (List ℕ × List ℕ)) → AllByRecursion (λ e. is_extra e ≡ true) extras → list_any (bytes_eq (name k)) (keys_of extras) ≡ false
no_extra k [] h = refl
no_extra k (e ∷ extras) h =
    or_from (bytes_eq (name k) e.0) (list_any (bytes_eq (name k)) (keys_of extras)) (other_name e.0 k (extra_known e.0 (extra_key e h.0))) (no_extra k extras h.1)

front_extras : (d : Description) → AllByRecursion (λ e. is_extra e ≡ true) d.extras → AllByRecursion (λ key. list_any (bytes_eq key) (keys_of d.extras) ≡ false) (keys_of (hips_pairs d))
front_extras d h =
    let none = λ (k : Key). no_extra k d.extras h in
    (none CreatorDid, (none ObsTitle, (none DataproductType, (none HipsVersion, (none HipsReleaseDate, (none HipsStatus, (none HipsFrame, (none HipsOrder, (none HipsOrderMin, (none HipsTileWidth, (none HipsTileFormat, tt)))))))))))

none_in_both : (xs ys zs : List (List ℕ)) → AllByRecursion (λ x. list_any (bytes_eq x) ys ≡ false) xs → AllByRecursion (λ x. list_any (bytes_eq x) zs ≡ false) xs → AllByRecursion (λ x. list_any (bytes_eq x) (ys ++ zs) ≡ false) xs
none_in_both [] ys zs f g = tt
none_in_both (x ∷ xs) ys zs f g =
    (list_any-append (bytes_eq x) ys zs ∙ or_from (list_any (bytes_eq x) ys) (list_any (bytes_eq x) zs) f.0 g.0, none_in_both xs ys zs f.1 g.1)

-- ---- all of them

keys_are : (d : Description) → keys_of (description_pairs d) ≡ keys_of (hips_pairs d) ++ (keys_of d.extras ++ tail (d.version == 2))
keys_are d =
    ap keys_of (pairs_are d)
    ∙ map-append (λ (e : List ℕ × List ℕ). e.0) (hips_pairs d) (d.extras ++ (survey_pairs d ++ version_pairs d))
    ∙ ap (λ (keys : List (List ℕ)). keys_of (hips_pairs d) ++ keys) (map-append (λ (e : List ℕ × List ℕ). e.0) d.extras (survey_pairs d ++ version_pairs d))
    ∙ ap (λ (keys : List (List ℕ)). keys_of (hips_pairs d) ++ (keys_of d.extras ++ keys)) (tail_keys d)

pub pairs_distinct : (d : Description) → IsDescription d → are_distinct (keys_of (description_pairs d)) ≡ true
pairs_distinct d h =
    let extras = all_extras d h in
    let b : Bool = d.version == 2 in
    rw (keys_are d)
    (distinct_append (keys_of (hips_pairs d)) (keys_of d.extras ++ tail b) (front_distinct d)
    (distinct_append (keys_of d.extras) (tail b) h.distinct (tail_distinct b) (extras_tail d.extras b extras))
    (none_in_both (keys_of (hips_pairs d)) (keys_of d.extras) (tail b) (front_extras d extras) (front_tail d b)))
