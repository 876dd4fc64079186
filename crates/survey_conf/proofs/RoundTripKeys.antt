-- The known keys, and the keys that are extra.
use Rattle.std.proofs.Common.{◌≡◌, ℕ, Bool, true, false, not, ◌&&◌, true≢false, List, [], ◌∷◌, Option, Some, None, is_none, nat_eq, nat_le, leb-true, length, ◌≤◌, inl, inr, codes, refl, sym, ◌∙◌, bytes_eq, find}
use Rattle.std.specs.List.{AllByRecursion, list_all, starts_with}
use Rattle.std.proofs.lemmas.Bool.{and_parts, cases_Bool, not-true}
use Rattle.std.proofs.lemmas.Option.{none-some}
use Rattle.std.proofs.lemmas.Slice.Eq.{bytes_eq-Decides}
use Rattle.survey_conf.specs.Lines.{trimmed, is_key, is_value, is_value_byte}
use Rattle.survey_conf.specs.Keys.{known_keys, name, takes, known, is_extra_key}
use Rattle.survey_conf.specs.Description.{is_written_value, is_extra}
use Rattle.survey_conf.specs.declared.key.Key.{Key}
use Rattle.survey_conf.specs.declared.key.Key.TheVariants.{CreatorDid, ObsTitle, HipsReleaseDate, HipsStatus, HipsOrder, HipsOrderMin, HipsTileWidth, SurveyBitpix, SurveyBscale, SurveyBzero, SurveyBlank, SurveyVersion, SurveyRule, DataproductType, HipsVersion, HipsFrame, HipsTileFormat}
use Rattle.survey_conf.proofs.RoundTripBytes.{IsBare, bare_trimmed}
use Rattle.survey_conf.proofs.RoundTripFaults.{IsFine}

-- ---- known keys

pub known_name : (k : Key) → known (name k) ≡ Some k
unfolding known
known_name CreatorDid = refl
known_name ObsTitle = refl
known_name HipsReleaseDate = refl
known_name HipsStatus = refl
known_name HipsOrder = refl
known_name HipsOrderMin = refl
known_name HipsTileWidth = refl
known_name SurveyBitpix = refl
known_name SurveyBscale = refl
known_name SurveyBzero = refl
known_name SurveyBlank = refl
known_name SurveyVersion = refl
known_name SurveyRule = refl
known_name DataproductType = refl
known_name HipsVersion = refl
known_name HipsFrame = refl
known_name HipsTileFormat = refl

pub key_name : (k : Key) → is_key (name k) ≡ true
unfolding is_key
key_name CreatorDid = refl
key_name ObsTitle = refl
key_name HipsReleaseDate = refl
key_name HipsStatus = refl
key_name HipsOrder = refl
key_name HipsOrderMin = refl
key_name HipsTileWidth = refl
key_name SurveyBitpix = refl
key_name SurveyBscale = refl
key_name SurveyBzero = refl
key_name SurveyBlank = refl
key_name SurveyVersion = refl
key_name SurveyRule = refl
key_name DataproductType = refl
key_name HipsVersion = refl
key_name HipsFrame = refl
key_name HipsTileFormat = refl

pub named_fine : (k : Key) (value : List ℕ) → is_value value ≡ true → IsBare value → takes k value ≡ true → IsFine (name k, value)
named_fine k value is bare took = record {
  pair = record { key = key_name k; value = is; bare = bare };
  known = rw (known_name k) refl;
  range = rw (known_name k) took;
}

-- ---- extra keys

find_none : {X : Type 0} (p : X → Bool) (xs : List X) → find p xs ≡ None → AllByRecursion (λ x. p x ≡ false) xs
find_none p [] h = tt
find_none p (x ∷ xs) h = elim (cases_Bool (p x)) [
  | inl e ↦ absurd (none-some x (sym h ∙ rw e refl))
  | inr e ↦ (e, find_none p xs (sym (rw e refl) ∙ h))
]

pub other_name : (key : List ℕ) (k : Key) → known key ≡ None → bytes_eq (name k) key ≡ false
unfolding known
other_name key CreatorDid h = (find_none (λ k. bytes_eq (name k) key) known_keys h).0
other_name key ObsTitle h = (find_none (λ k. bytes_eq (name k) key) known_keys h).1.0
other_name key HipsReleaseDate h = (find_none (λ k. bytes_eq (name k) key) known_keys h).1.1.0
other_name key HipsStatus h = (find_none (λ k. bytes_eq (name k) key) known_keys h).1.1.1.0
other_name key HipsOrder h = (find_none (λ k. bytes_eq (name k) key) known_keys h).1.1.1.1.0
other_name key HipsOrderMin h = (find_none (λ k. bytes_eq (name k) key) known_keys h).1.1.1.1.1.0
other_name key HipsTileWidth h = (find_none (λ k. bytes_eq (name k) key) known_keys h).1.1.1.1.1.1.0
other_name key SurveyBitpix h = (find_none (λ k. bytes_eq (name k) key) known_keys h).1.1.1.1.1.1.1.0
other_name key SurveyBscale h = (find_none (λ k. bytes_eq (name k) key) known_keys h).1.1.1.1.1.1.1.1.0
other_name key SurveyBzero h = (find_none (λ k. bytes_eq (name k) key) known_keys h).1.1.1.1.1.1.1.1.1.0
other_name key SurveyBlank h = (find_none (λ k. bytes_eq (name k) key) known_keys h).1.1.1.1.1.1.1.1.1.1.0
other_name key SurveyVersion h = (find_none (λ k. bytes_eq (name k) key) known_keys h).1.1.1.1.1.1.1.1.1.1.1.0
other_name key SurveyRule h = (find_none (λ k. bytes_eq (name k) key) known_keys h).1.1.1.1.1.1.1.1.1.1.1.1.0
other_name key DataproductType h = (find_none (λ k. bytes_eq (name k) key) known_keys h).1.1.1.1.1.1.1.1.1.1.1.1.1.0
other_name key HipsVersion h = (find_none (λ k. bytes_eq (name k) key) known_keys h).1.1.1.1.1.1.1.1.1.1.1.1.1.1.0
other_name key HipsFrame h = (find_none (λ k. bytes_eq (name k) key) known_keys h).1.1.1.1.1.1.1.1.1.1.1.1.1.1.1.0
other_name key HipsTileFormat h = (find_none (λ k. bytes_eq (name k) key) known_keys h).1.1.1.1.1.1.1.1.1.1.1.1.1.1.1.1.0

value_some : (value : List ℕ) → is_value value ≡ true → 1 ≤ length value
unfolding is_value
value_some value h =
    let parts = and_parts (nat_le 1 (length value) && nat_le (length value) 1024) (list_all is_value_byte value) h in
    leb-true 1 (length value) (and_parts (nat_le 1 (length value)) (nat_le (length value) 1024) parts.0).0

pub written_value : (value : List ℕ) → is_written_value value ≡ true → (is_value value ≡ true) × IsBare value
written_value value h =
    let parts = and_parts (is_value value) (bytes_eq (trimmed value) value) h in
    (parts.0, bare_trimmed value (value_some value parts.0) ((bytes_eq-Decides (trimmed value) value).0 parts.1))

none_is : {A : Type 0} (o : Option A) → is_none o ≡ true → o ≡ None
none_is None h = refl
none_is (Some x) h = absurd (true≢false (sym h))

pub extra_known : (key : List ℕ) → is_extra_key key ≡ true → known key ≡ None
extra_known key h = none_is (known key) (and_parts (is_none (known key)) (not (starts_with nat_eq key (codes "survey_"))) h).0

pub extra_fine : (e : List ℕ × List ℕ) → is_extra e ≡ true → IsFine e
extra_fine e h =
    let parts = and_parts (is_key e.0 && is_extra_key e.0) (is_written_value e.1) h in
    let keys = and_parts (is_key e.0) (is_extra_key e.0) parts.0 in
    let value = written_value e.1 parts.1 in
    let none = extra_known e.0 keys.1 in
    let own = and_parts (is_none (known e.0)) (not (starts_with nat_eq e.0 (codes "survey_"))) keys.1 in
    record {
      pair = record { key = keys.0; value = value.0; bare = value.1 };
      known = rw (none, not-true (starts_with nat_eq e.0 (codes "survey_")) own.1) refl;
      range = rw none refl;
    }

pub extra_key : (e : List ℕ × List ℕ) → is_extra e ≡ true → is_extra_key e.0 ≡ true
extra_key e h = (and_parts (is_key e.0) (is_extra_key e.0) (and_parts (is_key e.0 && is_extra_key e.0) (is_written_value e.1) h).0).1
