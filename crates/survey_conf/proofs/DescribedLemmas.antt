-- Lines without a fault give a description.
use Rattle.std.proofs.Common.{◌≡◌, ℕ, zero, suc, ◌+◌, ◌^◌, ◌<◌, ◌≤◌, Bool, true, false, cond, not, ◌&&◌, List, [], ◌∷◌, map, filter, Option, Some, None, is_some, refl, sym, ap, subst, ◌∙◌, arith, Result, Ok, Err}
use Rattle.std.proofs.lemmas.Int.{ints}
use Rattle.std.specs.Result.{result_ok}
use Rattle.std.specs.Prelude.{IfSome, unwrap_or, find, nat_le, ◌==◌}
use Rattle.std.specs.List.{list_all, range_with_len}
use Rattle.std.specs.Map.{keys_of, lookup}
use Rattle.std.specs.Option.{option_map, option_and_then, option_or}
use Rattle.std.specs.Str.{bytes_eq}
use Rattle.std.proofs.lemmas.Bool.Decides.{nat_tests}
use Rattle.decimal_scale.specs.Real.{DecimalNumber, IsNormal, read_real}
use Rattle.decimal_scale.specs.Laws.{ReadIsNormal}
use Rattle.decimal_scale.specs.declared.fault.BadReal.{BadReal}
use Rattle.parent_rule.specs.Depth.{PixelDepth}
use Rattle.parent_rule.specs.declared.combine.Combine.TheVariants.{Mean}
use Rattle.pyramid_model.specs.Shape.{IsShape}
use Rattle.survey_conf.specs.Lines.{is_key, contents}
use Rattle.survey_conf.specs.Numbers.{natural, order, lowest_order, version, width_exponent, scale, real, combine, not_zero}
use Rattle.survey_conf.specs.Keys.{name, is_extra_key}
use Rattle.survey_conf.specs.Entries.{Entries, Setting, entries, setting, is_there, value_of, read_as}
use Rattle.survey_conf.specs.Faults.{fault_together, is_blank_of_depth, has_stray_rule, first_fault, fault_of, IsRefusedBy}
use Rattle.survey_conf.specs.declared.fault.ConfRefusal.{ConfRefusal}
use Rattle.survey_conf.specs.declared.fault.ConfRefusal.TheVariants.{Fault, OutOfMemory}
use Rattle.survey_conf.specs.Description.{Description, description, description_of, IsDescription, is_written_value, is_extra, are_distinct, extras_of, real_one, real_zero}
use Rattle.survey_conf.specs.declared.fault.ConfFault.{ConfFault}
use Rattle.survey_conf.specs.declared.key.Key.{Key}
use Rattle.survey_conf.specs.declared.key.Key.TheVariants.{CreatorDid, ObsTitle, HipsReleaseDate, HipsStatus, HipsOrder, HipsOrderMin, HipsTileWidth, SurveyBitpix, SurveyBscale, SurveyBzero, SurveyBlank, SurveyVersion, SurveyRule}
use Rattle.std.proofs.lemmas.Bool.{and_parts}
use Rattle.survey_conf.proofs.DistinctLemmas.{distinct-extras}
use Rattle.survey_conf.proofs.WellFormedLemmas.{WellFormed, is_well_formed, kept-lines}
use Rattle.survey_conf.proofs.DepthLemmas.{is_complete, read_as-passes, bits-known, blank-number}

-- a value that is there is of its form
found-written : (key : List ℕ) (es : Entries) → list_all is_well_formed es ≡ true → IfSome (lookup (bytes_eq key) es) (λ s. is_written_value s.value ≡ true)
found-written key [] e = tt
found-written key (x ∷ es) e =
    let parts = and_parts (is_well_formed x) (list_all is_well_formed es) e in
    by (bytes_eq key x.0) (and_parts (is_key x.0) (is_written_value x.1.value) parts.0).1 (found-written key es parts.1)
  where
    by : (b : Bool) → is_written_value x.1.value ≡ true → IfSome (lookup (bytes_eq key) es) (λ s. is_written_value s.value ≡ true)
        → IfSome (cond b (Some x.1) (lookup (bytes_eq key) es)) (λ s. is_written_value s.value ≡ true)
    by true here rest = here
    by false here rest = rest

text-written : (es : Entries) (key : Key) → list_all is_well_formed es ≡ true → is_there es (name key) ≡ true → is_written_value (unwrap_or (value_of es key) []) ≡ true
text-written es key e there = by (setting es (name key)) (found-written (name key) es e) there
  where
    by : (o : Option Setting) → IfSome o (λ s. is_written_value s.value ≡ true) → is_some o ≡ true → is_written_value (unwrap_or (option_map (λ s. s.value) o) []) ≡ true
    by None h t = absurd cc
    by (Some s) h t = h

-- each required key is there
seven : (a b c d e f g : Bool) → (a && (b && (c && (d && (e && (f && (g && true))))))) ≡ true → (a ≡ true) × (b ≡ true) × (c ≡ true) × (d ≡ true)
seven a b c d e f g h =
    let p = and_parts a _ h in
    let q = and_parts b _ p.1 in
    let r = and_parts c _ q.1 in
    (p.0, q.0, r.0, (and_parts d _ r.1).0)

complete-texts : (es : Entries) → is_complete es ≡ true
    → (is_there es (name CreatorDid) ≡ true) × (is_there es (name ObsTitle) ≡ true) × (is_there es (name HipsReleaseDate) ≡ true) × (is_there es (name HipsStatus) ≡ true)
complete-texts es e = seven (is_there es (name CreatorDid)) (is_there es (name ObsTitle)) (is_there es (name HipsReleaseDate)) (is_there es (name HipsStatus))
    (is_there es (name HipsOrder)) (is_there es (name SurveyBitpix)) (is_there es (name SurveyBlank)) e

-- what is found in a range of numbers is one of them
found : (p : ℕ → Bool) (a n : ℕ) → IfSome (find p (range_with_len a n)) (λ m. (a ≤ m) × (m < a + n))
found p a zero = tt
found p a (suc n) = by (p a) (found p (a + 1) n)
  where
    wider : (o : Option ℕ) → IfSome o (λ m. (a + 1 ≤ m) × (m < a + 1 + n)) → IfSome o (λ m. (a ≤ m) × (m < a + suc n))
    wider None h = tt
    wider (Some m) h = (omega (arith, h), omega (arith, h))

    by : (b : Bool) → IfSome (find p (range_with_len (a + 1) n)) (λ m. (a + 1 ≤ m) × (m < a + 1 + n)) → IfSome (cond b (Some a) (find p (range_with_len (a + 1) n))) (λ m. (a ≤ m) × (m < a + suc n))
    by true h = (omega arith, omega arith)
    by false h = wider (find p (range_with_len (a + 1) n)) h

-- what the lines together have where they have no fault
pub record FitTogether (es : Entries) : Type 0 where
  pub complete : is_complete es ≡ true
  pub blank : is_blank_of_depth es ≡ true
  pub rule : has_stray_rule es ≡ false

three : (a b c : Bool) (x y z : ConfFault) → cond (not a) (Some x) (cond (not b) (Some y) (cond c (Some z) None)) ≡ None → (a ≡ true) × (b ≡ true) × (c ≡ false)
three true true false x y z e = (refl, refl, refl)
three true true true x y z e = absurd cc
three true false c x y z e = absurd cc
three false b c x y z e = absurd cc

pub together : (es : Entries) → fault_together es ≡ None → FitTogether es
unfolding fault_together
together es e =
    let parts = three (is_complete es) (is_blank_of_depth es) (has_stray_rule es) _ _ _ e in
    record { complete = parts.0; blank = parts.1; rule = parts.2 }

-- ---- numbers

-- a width that is read is 2^n with n from 1 to 9
exponent-range : (value : List ℕ) → IfSome (width_exponent value) (λ n. (1 ≤ n) × (n ≤ 9))
exponent-range value = by (natural value)
  where
    within : (o : Option ℕ) → IfSome o (λ m. (1 ≤ m) × (m < 1 + 9)) → IfSome o (λ n. (1 ≤ n) × (n ≤ 9))
    within None h = tt
    within (Some m) h = (h.0, omega (arith, h))

    at : (width : ℕ) → IfSome (find (λ n. width == 2 ^ n) (range_with_len 1 9)) (λ n. (1 ≤ n) × (n ≤ 9))
    at width = within (find (λ n. width == 2 ^ n) (range_with_len 1 9)) (found (λ n. width == 2 ^ n) 1 9)

    by : (o : Option ℕ) → IfSome (option_and_then (λ width. find (λ n. width == 2 ^ n) (range_with_len 1 9)) o) (λ n. (1 ≤ n) × (n ≤ 9))
    by None = tt
    by (Some width) = at width

exponent-read : (es : Entries) → (1 ≤ read_as width_exponent 9 es HipsTileWidth) × (read_as width_exponent 9 es HipsTileWidth ≤ 9)
exponent-read es = by (value_of es HipsTileWidth)
  where
    at : (o : Option ℕ) → IfSome o (λ n. (1 ≤ n) × (n ≤ 9)) → (1 ≤ unwrap_or o 9) × (unwrap_or o 9 ≤ 9)
    at None h = (omega arith, omega arith)
    at (Some n) h = h

    by : (o : Option (List ℕ)) → (1 ≤ unwrap_or (option_and_then width_exponent o) 9) × (unwrap_or (option_and_then width_exponent o) 9 ≤ 9)
    by None = (omega arith, omega arith)
    by (Some value) = at (width_exponent value) (exponent-range value)

pub shape-read : (es : Entries) → IsShape (read_as order 3 es HipsOrder) (read_as lowest_order 3 es HipsOrderMin) (read_as width_exponent 9 es HipsTileWidth)
shape-read es =
    let top = and_parts (nat_le 3 (read_as order 3 es HipsOrder)) (nat_le (read_as order 3 es HipsOrder) 11) (read_as-passes (λ n. nat_le 3 n && nat_le n 11) 3 es HipsOrder refl) in
    let low : nat_le (read_as lowest_order 3 es HipsOrderMin) 3 ≡ true = read_as-passes (λ n. nat_le n 3) 3 es HipsOrderMin refl in
    let exponent = exponent-read es in
    record {
      low_order = grind (arith, nat_tests);
      least_top = grind (arith, nat_tests, top);
      greatest_top = grind (arith, nat_tests, top);
      least_n = exponent.0;
      greatest_n = exponent.1;
    }

pub version-read : (es : Entries) → (1 ≤ read_as version 1 es SurveyVersion) × (read_as version 1 es SurveyVersion ≤ 2)
version-read es =
    let parts = and_parts (nat_le 1 (read_as version 1 es SurveyVersion)) (nat_le (read_as version 1 es SurveyVersion) 2) (read_as-passes (λ n. nat_le 1 n && nat_le n 2) 1 es SurveyVersion refl) in
    (grind (arith, nat_tests, parts), grind (arith, nat_tests, parts))

-- a scale is not 0
scale-passes : (value : List ℕ) → IfSome (scale value) (λ d. not_zero d ≡ true)
scale-passes value = by (real value)
  where
    at : (d : DecimalNumber) (b : Bool) → not_zero d ≡ b → IfSome (cond b (Some d) None) (λ d. not_zero d ≡ true)
    at d true e = e
    at d false e = tt

    by : (o : Option DecimalNumber) → IfSome (option_and_then (λ d. cond (not_zero d) (Some d) None) o) (λ d. not_zero d ≡ true)
    by None = tt
    by (Some d) = at d (not_zero d) refl

scale-read : (es : Entries) → not_zero (read_as scale real_one es SurveyBscale) ≡ true
scale-read es = by (value_of es SurveyBscale)
  where
    at : (o : Option DecimalNumber) → IfSome o (λ d. not_zero d ≡ true) → not_zero (unwrap_or o real_one) ≡ true
    at None h = refl
    at (Some d) h = h

    by : (o : Option (List ℕ)) → not_zero (unwrap_or (option_and_then scale o) real_one) ≡ true
    by None = refl
    by (Some value) = at (scale value) (scale-passes value)

-- without a stray rule, version 1 combines by the mean
rule-read : (es : Entries) → has_stray_rule es ≡ false → read_as version 1 es SurveyVersion ≡ 1 → read_as combine Mean es SurveyRule ≡ Mean
rule-read es none first = by (setting es (name SurveyRule)) (absent (is_there es (name SurveyRule)) (read_as version 1 es SurveyVersion == 1) none (grind (arith, nat_tests)))
  where
    absent : (a b : Bool) → (a && b) ≡ false → b ≡ true → a ≡ false
    absent true b e h = absurd cc
    absent false b e h = refl

    by : (o : Option Setting) → is_some o ≡ false → unwrap_or (option_and_then combine (option_map (λ s. s.value) o)) Mean ≡ Mean
    by None h = refl
    by (Some s) h = absurd cc

-- the extra keys are of their form
extras-written : (es : Entries) → list_all is_well_formed es ≡ true → list_all is_extra (extras_of es) ≡ true
extras-written [] e = refl
extras-written (x ∷ es) e =
    let parts = and_parts (is_well_formed x) (list_all is_well_formed es) e in
    let here = and_parts (is_key x.0) (is_written_value x.1.value) parts.0 in
    by (is_extra_key x.0) refl here.0 here.1 (extras-written es parts.1)
  where
    by : (b : Bool) → is_extra_key x.0 ≡ b → is_key x.0 ≡ true → is_written_value x.1.value ≡ true → list_all is_extra (extras_of es) ≡ true
        → list_all is_extra (map (λ e. (e.0, e.1.value)) (cond b (x ∷ filter (λ e. is_extra_key e.0) es) (filter (λ e. is_extra_key e.0) es))) ≡ true
    by true extra key value rest = rw (key, extra, value) rest
    by false extra key value rest = rest

-- what the lines describe is a description
pub described : (es : Entries) → WellFormed es → fault_together es ≡ None → IsNormal (read_as scale real_one es SurveyBscale) → IsNormal (read_as real real_zero es SurveyBzero) → IsDescription (description es)
unfolding description
described es kept none bscale bzero =
    let t = together es none in
    let there = complete-texts es t.complete in
    record {
      creator_did = text-written es CreatorDid kept.form there.0;
      obs_title = text-written es ObsTitle kept.form there.1;
      hips_release_date = text-written es HipsReleaseDate kept.form there.2;
      hips_status = text-written es HipsStatus kept.form there.3;
      shape = shape-read es;
      bitpix = bits-known es;
      blank = blank-number _ _ t.blank;
      bscale = bscale;
      not_zero = scale-read es;
      bzero = bzero;
      least_version = (version-read es).0;
      greatest_version = (version-read es).1;
      combine = rule-read es t.rule;
      extras = extras-written es kept.form;
      distinct = distinct-extras es kept.distinct;
    }

-- ---- normal form

real_one-normal : IsNormal real_one
real_one-normal = record { digits = omega arith; last_digit = λ e. absurd (omega arith); least_exp = grind (arith, ints); greatest_exp = grind (arith, ints) }

real_zero-normal : IsNormal real_zero
real_zero-normal = record { digits = omega arith; last_digit = λ e. (refl, refl); least_exp = grind (arith, ints); greatest_exp = grind (arith, ints) }

real-normal : ReadIsNormal → (value : List ℕ) → IfSome (real value) IsNormal
real-normal normal value = by (read_real value) refl
  where
    by : (r : Result DecimalNumber BadReal) → read_real value ≡ r → IfSome (result_ok r) IsNormal
    by (Ok d) e = normal value d e
    by (Err b) e = tt

scale-normal : ReadIsNormal → (value : List ℕ) → IfSome (scale value) IsNormal
scale-normal normal value = by (real value) (real-normal normal value)
  where
    at : (d : DecimalNumber) (b : Bool) → IsNormal d → IfSome (cond b (Some d) None) IsNormal
    at d true h = h
    at d false h = tt

    by : (o : Option DecimalNumber) → IfSome o IsNormal → IfSome (option_and_then (λ d. cond (not_zero d) (Some d) None) o) IsNormal
    by None h = tt
    by (Some d) h = at d (not_zero d) h

read_as-normal : (f : List ℕ → Option DecimalNumber) (default : DecimalNumber) (es : Entries) (key : Key) → ((value : List ℕ) → IfSome (f value) IsNormal) → IsNormal default → IsNormal (read_as f default es key)
read_as-normal f default es key reads d = by (value_of es key)
  where
    at : (o : Option DecimalNumber) → IfSome o IsNormal → IsNormal (unwrap_or o default)
    at None h = d
    at (Some x) h = h

    by : (o : Option (List ℕ)) → IsNormal (unwrap_or (option_and_then f o) default)
    by None = d
    by (Some value) = at (f value) (reads value)

-- lines without a fault give a description
pub described-lines : ReadIsNormal → (contents : List (List ℕ)) (said : Entries) → said ≡ entries contents → first_fault contents ≡ None → fault_together said ≡ None → IsDescription (description said)
described-lines normal contents said is none together =
    described said (subst WellFormed (sym is) (kept-lines contents none)) together
    (read_as-normal scale real_one said SurveyBscale (scale-normal normal) real_one-normal)
    (read_as-normal real real_zero said SurveyBzero (real-normal normal) real_zero-normal)

-- ---- what reading answers

pub fault_of-none : (text : List ℕ) (said : Entries) → said ≡ entries (contents text) → first_fault (contents text) ≡ None → fault_together said ≡ None → fault_of text ≡ None
unfolding fault_of
fault_of-none text said is none together = ap (λ o. option_or o (fault_together (entries (contents text)))) none ∙ ap fault_together (sym is) ∙ together

pub fault_of-together : (text : List ℕ) (said : Entries) (fault : ConfFault) → said ≡ entries (contents text) → first_fault (contents text) ≡ None → fault_together said ≡ Some fault → fault_of text ≡ Some fault
unfolding fault_of
fault_of-together text said fault is none together = ap (λ o. option_or o (fault_together (entries (contents text)))) none ∙ ap fault_together (sym is) ∙ together

pub fault_of-line : (text : List ℕ) (e : ConfRefusal) → IsRefusedBy (first_fault (contents text)) e → IsRefusedBy (fault_of text) e
unfolding fault_of
fault_of-line text OutOfMemory h = tt
fault_of-line text (Fault f) h = ap (λ o. option_or o (fault_together (entries (contents text)))) h

pub description-is : (es : Entries) (text : List ℕ) → es ≡ entries (contents text) → description es ≡ description_of text
description-is es text is = ap description is

-- ---- the parts of a description

pub distinct-described : (es : Entries) → IsDescription (description es) → are_distinct (keys_of (extras_of es)) ≡ true
unfolding description
distinct-described es d = d.distinct

pub shape-described : (es : Entries) (top low n : ℕ) (depth : PixelDepth) → top ≡ read_as order 3 es HipsOrder → low ≡ read_as lowest_order 3 es HipsOrderMin → n ≡ read_as width_exponent 9 es HipsTileWidth
    → depth ≡ (description es).shape.depth → record { top = top; low = low; n = n; depth = depth } ≡ (description es).shape
unfolding description
shape-described es top low n depth t l e d i = record { top = t i; low = l i; n = e i; depth = d i }

pub same-description : (es : Entries) (d : Description) → d.creator_did ≡ unwrap_or (value_of es CreatorDid) [] → d.obs_title ≡ unwrap_or (value_of es ObsTitle) []
    → d.hips_release_date ≡ unwrap_or (value_of es HipsReleaseDate) [] → d.hips_status ≡ unwrap_or (value_of es HipsStatus) [] → d.shape ≡ (description es).shape
    → d.bscale ≡ read_as scale real_one es SurveyBscale → d.bzero ≡ read_as real real_zero es SurveyBzero → d.version ≡ read_as version 1 es SurveyVersion → d.extras ≡ extras_of es → d ≡ description es
unfolding description
same-description es d a b c e s x y v z i = record {
  creator_did = a i;
  obs_title = b i;
  hips_release_date = c i;
  hips_status = e i;
  shape = s i;
  bscale = x i;
  bzero = y i;
  version = v i;
  extras = z i;
}
