-- What the lines of a text without a fault keep: keys and values of their form, and no key twice.
use Rattle.std.proofs.Common.{◌≡◌, ℕ, zero, suc, ◌+◌, ◌<◌, ◌≤◌, Bool, true, false, cond, not, ◌&&◌, List, [], ◌∷◌, ◌++◌, length, get_or, take, Option, Some, None, is_some, refl, sym, ap, subst, ◌∙◌, arith, add-one}
use Rattle.std.specs.Prelude.{slice_get}
use Rattle.std.specs.List.{list_any, list_all, filter_map, cons_option, range_with_len}
use Rattle.std.specs.Map.{keys_of, lookup}
use Rattle.std.specs.Option.{option_to_list}
use Rattle.std.specs.Str.{bytes_eq}
use Rattle.std.specs.Cmp.Lexicographic.{bytes_decides}
use Rattle.std.proofs.lemmas.List.{take_more, take_all, length-take-le, append-nil}
use Rattle.survey_conf.specs.Lines.{is_skipped, has_form, is_equals, key_in, value_in, is_key, is_value, trimmed}
use Rattle.survey_conf.specs.Keys.{is_unknown, is_in_range}
use Rattle.survey_conf.specs.Entries.{Entries, Setting, entries, entry}
use Rattle.survey_conf.specs.Faults.{kind_after, kind_of_pair, at_line, fault_at, first_fault}
use Rattle.survey_conf.specs.Description.{is_written_value, are_distinct}
use Rattle.survey_conf.specs.declared.fault.ConfKind.{ConfKind}
use Rattle.survey_conf.specs.declared.fault.ConfKind.TheVariants.{Syntax, Unknown, Twice, Range}
use Rattle.survey_conf.proofs.DistinctLemmas.{distinct-push}
use Rattle.std.proofs.lemmas.Bool.{and_parts}
use Rattle.survey_conf.proofs.ScanLemmas.{entries-append}
use Rattle.survey_conf.proofs.TrimLemmas.{trimmed-trimmed}

-- a key and a value of their form
abbrev pub is_well_formed : List ℕ × Setting → Bool
is_well_formed e = is_key e.0 && is_written_value e.1.value

pub record WellFormed (es : Entries) : Type 0 where
  pub form : list_all is_well_formed es ≡ true
  pub distinct : are_distinct (keys_of es) ≡ true

all-push : {X : Type 0} (p : X → Bool) (xs : List X) (x : X) → list_all p xs ≡ true → p x ≡ true → list_all p (xs ++ x ∷ []) ≡ true
all-push p [] x e h = rw h refl
all-push p (y ∷ xs) x e h = let parts = and_parts (p y) (list_all p xs) e in rw (parts.0) (all-push p xs x parts.1 h)

-- a pair without a fault has a new key
absent : (es : Entries) (key value : List ℕ) → kind_of_pair es key value ≡ None → lookup (bytes_eq key) es ≡ None
absent es key value = by (is_unknown key) (lookup (bytes_eq key) es)
  where
    by : (unknown : Bool) (found : Option Setting) → cond unknown (Some Unknown) (cond (is_some found) (Some Twice) (cond (not (is_in_range key value)) (Some Range) None)) ≡ None → found ≡ None
    by true found none = absurd cc
    by false None none = refl
    by false (Some s) none = absurd cc

form-kept : (written : List ℕ) (line : ℕ) → has_form written ≡ true → is_well_formed (key_in written, record { line = line; value = value_in written }) ≡ true
form-kept written line e =
    let outer = and_parts (list_any is_equals written && is_key (key_in written)) (is_value (value_in written)) e in
    let inner = and_parts (list_any is_equals written) (is_key (key_in written)) outer.0 in
    let same : bytes_eq (trimmed (value_in written)) (value_in written) ≡ true =
    (bytes_decides (trimmed (value_in written)) (value_in written)).1 (trimmed-trimmed _) in
    rw (inner.1, outer.1, same) refl

-- a line without a fault keeps it
pub kept-more : (es : Entries) (line : ℕ) (written : List ℕ) → WellFormed es → kind_after es written ≡ None → WellFormed (es ++ option_to_list (entry (line, written)))
unfolding kind_after
kept-more es line written kept = by (is_skipped written) (has_form written) refl
  where
    add : kind_of_pair es (key_in written) (value_in written) ≡ None → has_form written ≡ true → WellFormed (es ++ (key_in written, record { line = line; value = value_in written }) ∷ [])
    add none form = record {
      form = all-push is_well_formed es _ kept.form (form-kept written line form);
      distinct = distinct-push es (key_in written) _ kept.distinct (absent es (key_in written) (value_in written) none);
    }

    by : (skipped form : Bool) → has_form written ≡ form → cond skipped None (cond (not form) (Some Syntax) (kind_of_pair es (key_in written) (value_in written))) ≡ None
        → WellFormed (es ++ option_to_list (cond skipped None (Some (key_in written, record { line = line; value = value_in written }))))
    by true form is none = subst WellFormed (sym (append-nil es)) kept
    by false true is none = add none is
    by false false is none = absurd cc

at_line-none : (line : ℕ) (kind : Option ConfKind) → at_line line kind ≡ None → kind ≡ None
at_line-none line None e = refl
at_line-none line (Some k) e = absurd cc

kept-take : (contents : List (List ℕ)) (n : ℕ) → n ≤ length contents → ((k : ℕ) → k < n → fault_at contents k ≡ None) → WellFormed (entries (take n contents))
unfolding entries
kept-take contents zero within clean = record { form = refl; distinct = refl }
kept-take contents (suc n) within clean =
    let written : List ℕ = get_or contents n [] in
    let longer : take (suc n) contents ≡ take n contents ++ written ∷ [] = ap (λ m. take m contents) (sym (add-one n)) ∙ take_more contents n [] (omega arith) in
    let before : WellFormed (entries (take n contents)) = kept-take contents n (omega arith) (λ k below. clean k (omega arith)) in
    let count : length (take n contents) + 1 ≡ n + 1 = ap (λ m. m + 1) (length-take-le n contents (omega arith)) in
    subst WellFormed (sym (entries-append (take n contents) written (n + 1) count) ∙ ap entries (sym longer))
    (kept-more (entries (take n contents)) (n + 1) written before (at_line-none (n + 1) _ (clean n (omega arith))))

none_each : {X : Type 0} (f : ℕ → Option X) (a n : ℕ) → slice_get (filter_map f (range_with_len a n)) 0 ≡ None → (k : ℕ) → k < n → f (a + k) ≡ None
none_each f a zero e k below = absurd (omega arith)
none_each {X} f a (suc n) e k below = by (f a) refl (λ later. none_each f (a + 1) n later) e k below
  where
    by : (o : Option X) → f a ≡ o → (slice_get (filter_map f (range_with_len (a + 1) n)) 0 ≡ None → (k : ℕ) → k < n → f (a + 1 + k) ≡ None)
        → slice_get (cons_option o (filter_map f (range_with_len (a + 1) n))) 0 ≡ None → (k : ℕ) → k < suc n → f (a + k) ≡ None
    by None here rest later zero below = ap f (omega arith) ∙ here
    by None here rest later (suc k) below = ap f (omega arith) ∙ rest later k (omega arith)
    by (Some x) here rest later k below = absurd cc

pub kept-lines : (contents : List (List ℕ)) → first_fault contents ≡ None → WellFormed (entries contents)
kept-lines contents none =
    subst (λ cs. WellFormed (entries cs)) (take_all (length contents) contents (omega arith))
    (kept-take contents (length contents) (omega arith) (λ k below. ap (fault_at contents) (omega arith) ∙ none_each (fault_at contents) 0 (length contents) none k below))
