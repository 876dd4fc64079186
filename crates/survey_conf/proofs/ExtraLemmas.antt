-- The extra keys, as a `Conf` holds them.
use Rattle.std.proofs.Common.{◌≡◌, ℕ, true, false, cond, List, [], ◌∷◌, ◌++◌, map, filter, Option, Some, None, refl, sym, ap, ◌∙◌, Vec, Global}
use Rattle.std.specs.Option.{option_map}
use Rattle.std.specs.Map.{keys_of, lookup}
use Rattle.std.specs.Str.{bytes_eq}
use Rattle.std.proofs.lemmas.List.{map-append}
use denote.Ref.{Bor}
use Rattle.survey_conf.specs.Keys.{is_extra_key, known}
use Rattle.survey_conf.specs.EntriesView.{entries_view, setting_view}
use Rattle.survey_conf.specs.ConfView.{extras_view}
use Rattle.survey_conf.specs.Description.{Description, are_distinct, extras_of, value_at, value_by}
use Rattle.survey_conf.specs.declared.entries.Setting.{Setting as Slices}
use Rattle.survey_conf.proofs.DistinctLemmas.{absent-before}

-- a look-up among them is one among their texts
pub lookup-extras_view : (key : List ℕ) (es : List (Vec ℕ Global × Vec ℕ Global)) → lookup (bytes_eq key) (extras_view es) ≡ option_map (λ v. v.items) (lookup (λ k. bytes_eq key k.items) es)
lookup-extras_view key [] = refl
lookup-extras_view key (e ∷ es) =
    elim (bytes_eq key e.0.items) as (λ b. cond b (Some e.1.items) (lookup (bytes_eq key) (extras_view es)) ≡ option_map (λ v. v.items) (cond b (Some e.1) (lookup (λ k. bytes_eq key k.items) es))) [
      | true ↦ refl
      | false ↦ lookup-extras_view key es
    ]

none-under : {A B : Type 0} (f : A → B) (o : Option A) → option_map f o ≡ None → o ≡ None
none-under f None e = refl
none-under f (Some x) e = absurd cc

pub absent-extras_view : (key : List ℕ) (k : Vec ℕ Global) (es : List (Vec ℕ Global × Vec ℕ Global)) → k.items ≡ key → lookup (bytes_eq key) (extras_view es) ≡ None
    → lookup (λ j. bytes_eq k.items j.items) es ≡ None
absent-extras_view key k es is none =
    ap (λ bytes. lookup (λ j. bytes_eq bytes j.items) es) is
    ∙ none-under (λ v. v.items) (lookup (λ j. bytes_eq key j.items) es) (sym (lookup-extras_view key es) ∙ none)

pub extras_view-added : (old new : List (Vec ℕ Global × Vec ℕ Global)) (k v : Vec ℕ Global) (key value : List ℕ) → k.items ≡ key → v.items ≡ value → new ≡ old ++ (k, v) ∷ []
    → extras_view new ≡ extras_view old ++ (key, value) ∷ []
extras_view-added old new k v key value ik iv e =
    ap extras_view e ∙ map-append (λ e. (e.0.items, e.1.items)) old ((k, v) ∷ []) ∙ ap (λ p. extras_view old ++ p ∷ []) (λ i. (ik i, iv i))

-- while they are copied, the next one is none of those before it
pub absent-extra : (all done : List (List ℕ × List ℕ)) (rest more : List (Bor (List ℕ) × Slices)) (e : Bor (List ℕ) × Slices) → are_distinct (keys_of all) ≡ true
    → done ++ extras_of (entries_view rest) ≡ all → rest ≡ e ∷ more → is_extra_key e.0.now ≡ true → lookup (bytes_eq e.0.now) done ≡ None
absent-extra all done rest more e distinct is next extra =
    let first : extras_of (entries_view (e ∷ more)) ≡ (e.0.now, e.1.value.now) ∷ extras_of (entries_view more) =
    ap (λ b. map (λ e. (e.0, e.1.value)) (cond b ((e.0.now, setting_view e.1) ∷ filter (λ e. is_extra_key e.0) (entries_view more)) (filter (λ e. is_extra_key e.0) (entries_view more)))) extra in
    absent-before done e.0.now e.1.value.now (extras_of (entries_view more))
    (ap (λ es. are_distinct (keys_of es)) (ap (λ es. done ++ es) (sym first ∙ ap (λ es. extras_of (entries_view es)) (sym next)) ∙ is) ∙ distinct)

-- a key that is not known has the value of an extra key
pub value-extra : (d : Description) (key : List ℕ) → known key ≡ None → value_at d key ≡ lookup (bytes_eq key) d.extras
value-extra d key none = ap (value_by d key) none
