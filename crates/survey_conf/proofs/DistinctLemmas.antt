-- Keys that differ from one another.
use Rattle.std.proofs.Common.{◌≡◌, Bool, true, false, cond, not, ◌||◌, ℕ, List, [], ◌∷◌, ◌++◌, map, filter, Some, None, refl, ◌∙◌}
use Rattle.std.specs.List.{list_any}
use Rattle.std.specs.Map.{keys_of, lookup}
use Rattle.std.specs.Str.{bytes_eq}
use Rattle.std.specs.Cmp.Lexicographic.{nat_list_eq_equiv}
use Rattle.survey_conf.specs.Keys.{is_extra_key}
use Rattle.survey_conf.specs.Entries.{Entries}
use Rattle.survey_conf.specs.Description.{are_distinct, extras_of}
use Rattle.std.proofs.lemmas.Bool.{and_parts}

neither : (a b : Bool) → (a || b) ≡ false → (a ≡ false) × (b ≡ false)
neither true b e = absurd cc
neither false b e = (refl, e)

denied : (b : Bool) → not b ≡ true → b ≡ false
denied true e = absurd cc
denied false e = refl

flipped : (a b : List ℕ) → bytes_eq a b ≡ false → bytes_eq b a ≡ false
flipped a b e = nat_list_eq_equiv.symm b a ∙ e

module _ {X : Type 0} where
  any-skips : (key : List ℕ) (xs : List (List ℕ × X)) (k : List ℕ) (v : X) (ys : List (List ℕ × X))
      → list_any (bytes_eq key) (keys_of (xs ++ (k, v) ∷ ys)) ≡ false → bytes_eq key k ≡ false
  any-skips key [] k v ys e = (neither (bytes_eq key k) (list_any (bytes_eq key) (keys_of ys)) e).0
  any-skips key (x ∷ xs) k v ys e =
      any-skips key xs k v ys (neither (bytes_eq key x.0) (list_any (bytes_eq key) (keys_of (xs ++ (k, v) ∷ ys))) e).1

  -- a key of distinct keys is none of those before it
  pub absent-before : (xs : List (List ℕ × X)) (k : List ℕ) (v : X) (ys : List (List ℕ × X)) → are_distinct (keys_of (xs ++ (k, v) ∷ ys)) ≡ true → lookup (bytes_eq k) xs ≡ None
  absent-before [] k v ys e = refl
  absent-before (x ∷ xs) k v ys e =
      let parts = and_parts (not (list_any (bytes_eq x.0) (keys_of (xs ++ (k, v) ∷ ys)))) (are_distinct (keys_of (xs ++ (k, v) ∷ ys))) e in
      let apart : bytes_eq k x.0 ≡ false = flipped x.0 k (any-skips x.0 xs k v ys (denied (list_any (bytes_eq x.0) (keys_of (xs ++ (k, v) ∷ ys))) parts.0)) in
      rw apart (absent-before xs k v ys parts.1)

  none-parts : (k : List ℕ) (e : List ℕ × X) (es : List (List ℕ × X)) → lookup (bytes_eq k) (e ∷ es) ≡ None → (bytes_eq k e.0 ≡ false) × (lookup (bytes_eq k) es ≡ None)
  none-parts k e es = by (bytes_eq k e.0)
    where
      by : (b : Bool) → cond b (Some e.1) (lookup (bytes_eq k) es) ≡ None → (b ≡ false) × (lookup (bytes_eq k) es ≡ None)
      by true h = absurd cc
      by false h = (refl, h)

  any-push : (key : List ℕ) (es : List (List ℕ × X)) (k : List ℕ) (v : X) → list_any (bytes_eq key) (keys_of es) ≡ false → bytes_eq key k ≡ false
      → list_any (bytes_eq key) (keys_of (es ++ (k, v) ∷ [])) ≡ false
  any-push key [] k v e apart = rw apart refl
  any-push key (x ∷ es) k v e apart =
      let parts = neither (bytes_eq key x.0) (list_any (bytes_eq key) (keys_of es)) e in
      rw (parts.0) (any-push key es k v parts.1 apart)

  -- a key that is not there keeps them distinct
  pub distinct-push : (es : List (List ℕ × X)) (k : List ℕ) (v : X) → are_distinct (keys_of es) ≡ true → lookup (bytes_eq k) es ≡ None → are_distinct (keys_of (es ++ (k, v) ∷ [])) ≡ true
  distinct-push [] k v e none = refl
  distinct-push (x ∷ es) k v e none =
      let parts = and_parts (not (list_any (bytes_eq x.0) (keys_of es))) (are_distinct (keys_of es)) e in
      let away = none-parts k x es none in
      rw (any-push x.0 es k v (denied (list_any (bytes_eq x.0) (keys_of es)) parts.0) (flipped k x.0 away.0)) (distinct-push es k v parts.1 away.1)

any-extras : (key : List ℕ) (es : Entries) → list_any (bytes_eq key) (keys_of es) ≡ false → list_any (bytes_eq key) (keys_of (extras_of es)) ≡ false
any-extras key [] e = refl
any-extras key (x ∷ es) e =
    let parts = neither (bytes_eq key x.0) (list_any (bytes_eq key) (keys_of es)) e in
    by (is_extra_key x.0) parts.0 (any-extras key es parts.1)
  where
    by : (b : Bool) → bytes_eq key x.0 ≡ false → list_any (bytes_eq key) (keys_of (extras_of es)) ≡ false
        → list_any (bytes_eq key) (keys_of (map (λ e. (e.0, e.1.value)) (cond b (x ∷ filter (λ e. is_extra_key e.0) es) (filter (λ e. is_extra_key e.0) es)))) ≡ false
    by true apart rest = rw apart rest
    by false apart rest = rest

-- no extra key stands twice where no key does
pub distinct-extras : (es : Entries) → are_distinct (keys_of es) ≡ true → are_distinct (keys_of (extras_of es)) ≡ true
distinct-extras [] e = refl
distinct-extras (x ∷ es) e =
    let parts = and_parts (not (list_any (bytes_eq x.0) (keys_of es))) (are_distinct (keys_of es)) e in
    by (is_extra_key x.0) (any-extras x.0 es (denied (list_any (bytes_eq x.0) (keys_of es)) parts.0)) (distinct-extras es parts.1)
  where
    by : (b : Bool) → list_any (bytes_eq x.0) (keys_of (extras_of es)) ≡ false → are_distinct (keys_of (extras_of es)) ≡ true
        → are_distinct (keys_of (map (λ e. (e.0, e.1.value)) (cond b (x ∷ filter (λ e. is_extra_key e.0) es) (filter (λ e. is_extra_key e.0) es)))) ≡ true
    by true none rest = rw none rest
    by false none rest = rest
