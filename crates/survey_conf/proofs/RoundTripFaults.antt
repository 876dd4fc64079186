-- No line has a fault, where each pair is fine by itself and no key stands twice.
use Rattle.std.proofs.Common.{◌≡◌, ℕ, zero, suc, ◌+◌, ◌<◌, ◌≤◌, true, false, List, [], ◌∷◌, ◌++◌, length, take, drop, map, get_or, Option, None, is_some, refl, sym, ap, ◌∙◌, ap₂, subst, arith, bytes_eq, filter_map, slice_get}
use Rattle.std.specs.List.{AllByRecursion, range_with_len}
use Rattle.std.specs.Map.{keys_of}
use Rattle.std.proofs.lemmas.List.{take-map, get_or-map, take-append-drop, drop_more, length-map}
use Rattle.std.proofs.lemmas.List.Elements.{All-from_recursion, recursion_from_All, All-get_or, All-take}
use Rattle.survey_conf.specs.Entries.{Entries, entries, is_there}
use Rattle.survey_conf.specs.Keys.{is_unknown, is_in_range}
use Rattle.survey_conf.specs.Description.{are_distinct}
use Rattle.survey_conf.specs.Faults.{kind_after, fault_at, first_fault, at_line}
use Rattle.survey_conf.specs.declared.fault.ConfFault.{ConfFault}
use Rattle.survey_conf.proofs.RoundTripLines.{IsPair, written, not_skipped, key_read, value_read, form_read, all_weaker}
use Rattle.survey_conf.proofs.RoundTripEntries.{settings, entries_of, there_settings, none_earlier}

-- a pair whose key is not unknown and takes its value
pub record IsFine (p : List ℕ × List ℕ) : Type 0 where
  pub pair : IsPair p
  pub known : is_unknown p.0 ≡ false
  pub range : is_in_range p.0 p.1 ≡ true

pub are_pairs : (pairs : List (List ℕ × List ℕ)) → AllByRecursion IsFine pairs → AllByRecursion IsPair pairs
are_pairs pairs h = all_weaker IsFine IsPair pairs (λ p g. g.pair) h

no_kind : (es : Entries) (p : List ℕ × List ℕ) → IsFine p → is_there es p.0 ≡ false → kind_after es (written p) ≡ None
unfolding kind_after
no_kind es p h there = rw (not_skipped p h.pair, form_read p h.pair, key_read p h.pair, h.known, there, value_read p h.pair, h.range) refl

module _ (pairs : List (List ℕ × List ℕ)) (fine : AllByRecursion IsFine pairs) (distinct : are_distinct (keys_of pairs) ≡ true) where
  pair_at : ℕ → List ℕ × List ℕ
  pair_at i = get_or pairs i ([], [])

  fine_at : (i : ℕ) → i < length pairs → IsFine (pair_at i)
  unfolding pair_at
  fine_at i l = All-get_or IsFine pairs i ([], []) l (All-from_recursion IsFine pairs fine)

  first_pairs : (i : ℕ) → AllByRecursion IsPair (take i pairs)
  first_pairs i = recursion_from_All IsPair (take i pairs) (All-take IsPair i pairs (All-from_recursion IsPair pairs (are_pairs pairs fine)))

  parted : (i : ℕ) → i < length pairs → pairs ≡ take i pairs ++ pair_at i ∷ drop (i + 1) pairs
  unfolding pair_at
  parted i l = sym (take-append-drop i pairs) ∙ ap (λ (rest : List (List ℕ × List ℕ)). take i pairs ++ rest) (drop_more pairs i ([], []) l)

  not_there : (i : ℕ) → i < length pairs → is_there (settings 1 (take i pairs)) (pair_at i).0 ≡ false
  not_there i l =
      there_settings (bytes_eq (pair_at i).0) 1 (take i pairs)
      ∙ ap is_some (none_earlier (take i pairs) (pair_at i) (drop (i + 1) pairs)
      (subst (λ (ps : List (List ℕ × List ℕ)). are_distinct (keys_of ps) ≡ true) (parted i l) distinct))

  no_fault_at : (i : ℕ) → i < length pairs → fault_at (map written pairs) i ≡ None
  unfolding pair_at
  no_fault_at i l =
      let before : entries (take i (map written pairs)) ≡ settings 1 (take i pairs) =
      ap entries (take-map written i pairs) ∙ entries_of (take i pairs) (first_pairs i) in
      let here : get_or (map written pairs) i [] ≡ written (pair_at i) = get_or-map written pairs i ([], []) [] l in
      ap (at_line (i + 1)) (ap₂ kind_after before here ∙ no_kind (settings 1 (take i pairs)) (pair_at i) (fine_at i l) (not_there i l))

none_in_range : {A : Type 0} (h : ℕ → Option A) (a n : ℕ) → ((i : ℕ) → a ≤ i → i < a + n → h i ≡ None) → filter_map h (range_with_len a n) ≡ []
none_in_range h a zero f = refl
none_in_range h a (suc n) f =
    rw (f a (omega arith) (omega arith)) (none_in_range h (a + 1) n (λ i low high. f i (omega arith) (omega arith)))

pub no_first_fault : (pairs : List (List ℕ × List ℕ)) → AllByRecursion IsFine pairs → are_distinct (keys_of pairs) ≡ true → first_fault (map written pairs) ≡ None
no_first_fault pairs fine distinct =
    ap (λ (faults : List ConfFault). slice_get faults 0)
    (none_in_range (fault_at (map written pairs)) 0 (length (map written pairs))
    (λ i low high. no_fault_at pairs fine distinct i (let n : length (map written pairs) ≡ length pairs = length-map pairs written in omega arith)))
