-- What the lines of pairs say: their keys and values in order.
use Rattle.std.proofs.Common.{◌≡◌, ℕ, ◌+◌, Bool, true, false, cond, not, true≢false, List, [], ◌∷◌, ◌++◌, map, Option, Some, None, is_some, option_map, refl, sym, ap, ◌∙◌, inl, inr, bytes_eq, filter_map}
use Rattle.std.specs.List.{AllByRecursion, enumerate_from, list_any}
use Rattle.std.specs.Map.{lookup, keys_of}
use Rattle.std.proofs.lemmas.Bool.{and_parts, or_parts, not-true, cases_Bool}
use Rattle.std.proofs.lemmas.Slice.Eq.{bytes_eq-Decides}
use Rattle.survey_conf.specs.Entries.{Entries, Setting, entry, entries}
use Rattle.survey_conf.specs.Description.{are_distinct}
use Rattle.survey_conf.proofs.RoundTripLines.{IsPair, written, not_skipped, key_read, value_read}

-- pairs, the first of them in line n
unfoldable pub settings : ℕ → List (List ℕ × List ℕ) → Entries
settings n [] = []
settings n (p ∷ pairs) = (p.0, record { line = n; value = p.1 }) ∷ settings (n + 1) pairs

entry_of : (n : ℕ) (p : List ℕ × List ℕ) → IsPair p → ◌≡◌ {A = Option (List ℕ × Setting)} (entry (n, written p)) (Some (p.0, record { line = n; value = p.1 }))
entry_of n p h = rw (not_skipped p h, key_read p h, value_read p h) refl

entries_from : (n : ℕ) (pairs : List (List ℕ × List ℕ)) → AllByRecursion IsPair pairs → filter_map entry (enumerate_from n (map written pairs)) ≡ settings n pairs
unfolding settings
entries_from n [] h = refl
entries_from n (p ∷ pairs) h = rw (entry_of n p h.0) (ap (λ (es : Entries). (p.0, record { line = n; value = p.1 }) ∷ es) (entries_from (n + 1) pairs h.1))

pub entries_of : (pairs : List (List ℕ × List ℕ)) → AllByRecursion IsPair pairs → entries (map written pairs) ≡ settings 1 pairs
unfolding entries
entries_of pairs h = entries_from 1 pairs h

-- ---- look-ups

value_at_head : (b : Bool) (s : Setting) (o : Option Setting) (v : Option (List ℕ)) → option_map (λ s. s.value) o ≡ v
    → option_map {U = List ℕ} (λ s. s.value) (cond b (Some s) o) ≡ cond b (Some s.value) v
value_at_head true s o v e = refl
value_at_head false s o v e = e

pub lookup_settings : (test : List ℕ → Bool) (n : ℕ) (pairs : List (List ℕ × List ℕ)) → option_map {U = List ℕ} (λ s. s.value) (lookup test (settings n pairs)) ≡ lookup test pairs
unfolding settings
lookup_settings test n [] = refl
lookup_settings test n (p ∷ pairs) =
    value_at_head (test p.0) (record { line = n; value = p.1 }) (lookup test (settings (n + 1) pairs)) (lookup test pairs) (lookup_settings test (n + 1) pairs)

is_some_mapped : {A B : Type 0} (f : A → B) (o : Option A) → is_some (option_map f o) ≡ is_some o
is_some_mapped f None = refl
is_some_mapped f (Some x) = refl

pub there_settings : (test : List ℕ → Bool) (n : ℕ) (pairs : List (List ℕ × List ℕ)) → is_some (lookup test (settings n pairs)) ≡ is_some (lookup test pairs)
there_settings test n pairs =
    sym (is_some_mapped (λ (s : Setting). s.value) (lookup test (settings n pairs)))
    ∙ ap is_some (lookup_settings test n pairs)

-- ---- distinct keys

pub bytes_eq_sym : (xs ys : List ℕ) → bytes_eq xs ys ≡ false → bytes_eq ys xs ≡ false
bytes_eq_sym xs ys h = elim (cases_Bool (bytes_eq ys xs)) [
  | inl e ↦ absurd (true≢false (sym ((bytes_eq-Decides xs ys).1 (sym ((bytes_eq-Decides ys xs).0 e))) ∙ h))
  | inr e ↦ e
]

none_later : (test : List ℕ → Bool) (firsts : List (List ℕ × List ℕ)) (p : List ℕ × List ℕ) (pairs : List (List ℕ × List ℕ)) → list_any test (keys_of (firsts ++ p ∷ pairs)) ≡ false → test p.0 ≡ false
none_later test [] p pairs h = (or_parts (test p.0) (list_any test (keys_of pairs)) h).0
none_later test (q ∷ firsts) p pairs h = none_later test firsts p pairs (or_parts (test q.0) (list_any test (keys_of (firsts ++ p ∷ pairs))) h).1

-- none of the first keys is the next one
pub none_earlier : (firsts : List (List ℕ × List ℕ)) (p : List ℕ × List ℕ) (pairs : List (List ℕ × List ℕ)) → are_distinct (keys_of (firsts ++ p ∷ pairs)) ≡ true → lookup (bytes_eq p.0) firsts ≡ None
none_earlier [] p pairs h = refl
none_earlier (q ∷ firsts) p pairs h =
    let keys : List (List ℕ) = keys_of (firsts ++ p ∷ pairs) in
    let parts = and_parts (not (list_any (bytes_eq q.0) keys)) (are_distinct keys) h in
    let other : bytes_eq q.0 p.0 ≡ false = none_later (bytes_eq q.0) firsts p pairs (not-true (list_any (bytes_eq q.0) keys) parts.0) in
    rw (bytes_eq_sym q.0 p.0 other) (none_earlier firsts p pairs parts.1)
