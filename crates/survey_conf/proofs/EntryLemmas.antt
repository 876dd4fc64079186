-- What the code's map of entries says, and what a line adds to it.
use Rattle.std.proofs.Common.{◌≡◌, ℕ, Bool, true, false, cond, not, List, [], ◌∷◌, ◌++◌, Option, Some, None, refl, sym, ap, subst, ◌∙◌, is_some, length, arith}
use Rattle.std.specs.Option.{option_map, option_to_list}
use Rattle.std.specs.Map.{lookup}
use Rattle.std.specs.Str.{bytes_eq}
use Rattle.std.proofs.lemmas.List.{map-append}
use denote.Ref.{Bor}
use Rattle.survey_conf.specs.Lines.{is_skipped, has_form, key_in, value_in}
use Rattle.survey_conf.specs.Keys.{is_unknown, is_in_range}
use Rattle.survey_conf.specs.Entries.{Entries, entry}
use Rattle.survey_conf.specs.EntriesView.{entries_view, setting_view}
use Rattle.survey_conf.specs.Faults.{kind_after, kind_of_pair, IsRefusedBy}
use Rattle.survey_conf.specs.declared.entries.Setting.{Setting as Slices}
use Rattle.survey_conf.specs.declared.fault.ConfKind.{ConfKind}
use Rattle.survey_conf.specs.declared.fault.ConfKind.TheVariants.{Syntax, Unknown, Twice, Range}
use Rattle.survey_conf.specs.declared.fault.ConfFault.{ConfFault}
use Rattle.survey_conf.specs.declared.fault.ConfRefusal.{ConfRefusal}
use Rattle.survey_conf.specs.declared.fault.ConfRefusal.TheVariants.{Fault}

-- a look-up in the map is a look-up in what it says
pub lookup-entries_view : (key : List ℕ) (es : List (Bor (List ℕ) × Slices)) → lookup (bytes_eq key) (entries_view es) ≡ option_map setting_view (lookup (λ k. bytes_eq key k.now) es)
lookup-entries_view key [] = refl
lookup-entries_view key (e ∷ es) =
    elim (bytes_eq key e.0.now) as (λ b. cond b (Some (setting_view e.1)) (lookup (bytes_eq key) (entries_view es)) ≡ option_map setting_view (cond b (Some e.1) (lookup (λ k. bytes_eq key k.now) es))) [
      | true ↦ refl
      | false ↦ lookup-entries_view key es
    ]

-- what a line that is neither skipped nor of another form has for its kind
pub kind_after-pair : (earlier : Entries) (written key value : List ℕ) (kind : Option ConfKind) → is_skipped written ≡ false → has_form written ≡ true
    → key ≡ key_in written → value ≡ value_in written → kind_of_pair earlier key value ≡ kind → kind_after earlier written ≡ kind
unfolding kind_after
kind_after-pair earlier written key value kind shown form k v is = rw (shown, form) (ap (λ x. kind_of_pair earlier x (value_in written)) (sym k) ∙ ap (kind_of_pair earlier key) (sym v) ∙ is)

pub kind_after-skipped : (earlier : Entries) (written : List ℕ) → is_skipped written ≡ true → kind_after earlier written ≡ None
unfolding kind_after
kind_after-skipped earlier written skipped = rw skipped refl

pub kind_after-syntax : (earlier : Entries) (written : List ℕ) → is_skipped written ≡ false → has_form written ≡ false → kind_after earlier written ≡ Some Syntax
unfolding kind_after
kind_after-syntax earlier written shown form = rw (shown, form) refl

-- a choice that gives a value went that way
pub chosen : {A : Type 0} (b : Bool) (x y : A) → Some x ≡ cond b (Some y) None → (b ≡ true) × (x ≡ y)
chosen true x y e = (refl, ap (λ o. elim o [ Some z ↦ z | None ↦ x ]) e)
chosen false x y e = absurd cc

pub not_chosen : {A : Type 0} (b : Bool) (y : A) → None ≡ cond b (Some y) None → b ≡ false
not_chosen true y e = absurd cc
not_chosen false y e = refl

-- a line without a fault has a key that is not there yet
pub kind-none_absent : (es : List (Bor (List ℕ) × Slices)) (key value : List ℕ) → kind_of_pair (entries_view es) key value ≡ None → lookup (λ k. bytes_eq key k.now) es ≡ None
kind-none_absent es key value = by (is_unknown key) (lookup (λ k. bytes_eq key k.now) es) (lookup-entries_view key es)
  where
    by : (unknown : Bool) (found : Option Slices) → lookup (bytes_eq key) (entries_view es) ≡ option_map setting_view found
        → cond unknown (Some Unknown) (cond (is_some (lookup (bytes_eq key) (entries_view es))) (Some Twice) (cond (not (is_in_range key value)) (Some Range) None)) ≡ None → found ≡ None
    by true found e none = absurd cc
    by false None e none = refl
    by false (Some s) e none =
        let twice : Some Twice ≡ None = sym (ap (λ o. cond (is_some o) (Some Twice) (cond (not (is_in_range key value)) (Some Range) None)) e) ∙ none in
        absurd cc

-- what a line adds
pub entries_view-added : (old new : List (Bor (List ℕ) × Slices)) (key : Bor (List ℕ)) (value : Bor (List ℕ)) (line : ℕ) (written : List ℕ) → is_skipped written ≡ false
    → key.now ≡ key_in written → value.now ≡ value_in written → new ≡ old ++ (key, record { line = line; value = value }) ∷ []
    → entries_view new ≡ entries_view old ++ option_to_list (entry (line, written))
entries_view-added old new key value line written shown k v e =
    let says : entry (line, written) ≡ Some (key.now, record { line = line; value = value.now }) =
    ap (λ b. cond b None (Some (key_in written, record { line = line; value = value_in written }))) shown
    ∙ ap Some (λ i. (sym k i, record { line = line; value = sym v i })) in
    ap entries_view e
    ∙ map-append (λ e. (e.0.now, setting_view e.1)) old ((key, record { line = line; value = value }) ∷ [])
    ∙ ap (λ o. entries_view old ++ option_to_list o) (sym says)

-- a refusal that is this fault
pub refused-by : (fault : Option ConfFault) (e : ConfRefusal) (f : ConfFault) → e ≡ Fault f → fault ≡ Some f → IsRefusedBy fault e
refused-by fault e f is tells = subst (IsRefusedBy fault) (sym is) tells

pub entries_view-empty : (es : List (Bor (List ℕ) × Slices)) → length es ≡ 0 → entries_view es ≡ []
entries_view-empty [] e = refl
entries_view-empty (e ∷ es) none = absurd (omega arith)
