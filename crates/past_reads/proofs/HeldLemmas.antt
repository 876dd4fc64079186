-- The pairs of a cache after one more was put there.
use Rattle.std.proofs.Common.{◌≡◌, ℕ, zero, suc, ◌+◌, ◌-◌, ◌≤◌, true, false, cond, not, nat_eq, List, [], ◌∷◌, ◌++◌, map, filter, length, take, slice_get, Option, Some, None, refl, sym, ap, ◌∙◌, subst, arith, length-append}
use Rattle.std.specs.Prelude.{is_some, option_map, ◌||◌}
use Rattle.std.specs.Option.{option_map_or}
use Rattle.std.specs.List.{list_any, IsDistinct, AllByRecursion}
use Rattle.std.specs.Map.Iter.{TakesFirst}
use Rattle.std.specs.Iterator.{SkipsThenYields}
use Rattle.std.proofs.lemmas.Map.Iter.{rest_so_far}
use Rattle.std.specs.Map.{keys_of, lookup, lookup_entry, remove_entry}
use Rattle.std.proofs.lemmas.Bool.{eqb-true}
use Rattle.std.proofs.lemmas.List.{take_all, length-map, map-append}
use Rattle.std.specs.List.{take-map}
use Rattle.lru.specs.LruCache.{LruCache, put_entries, IsValid}
use Rattle.past_reads.specs.Costs.{held_after}

-- ---- a list without a number

all_others : (k : ℕ) (ks : List ℕ) → AllByRecursion (λ j. nat_eq k j ≡ false) ks → filter (λ j. not (nat_eq k j)) ks ≡ ks
all_others k [] all = refl
all_others k (j ∷ ks) all = rw (all.0) (ap (λ l. j ∷ l) (all_others k ks all.1))

module _ {X : Type 0} (k : ℕ) where
  -- the keys without it are those of the pairs without its pair
  pub keys-remove : (es : List (ℕ × X)) → IsDistinct nat_eq (keys_of es) → keys_of (remove_entry (nat_eq k) es) ≡ filter (λ j. not (nat_eq k j)) (keys_of es)
  unfolding IsDistinct
  keys-remove [] distinct = refl
  keys-remove (e ∷ es) distinct =
      elim (nat_eq k e.0) as (λ b. nat_eq k e.0 ≡ b → keys_of (cond b es (e ∷ remove_entry (nat_eq k) es)) ≡ cond (not b) (e.0 ∷ filter (λ j. not (nat_eq k j)) (keys_of es)) (filter (λ j. not (nat_eq k j)) (keys_of es))) [
        | true ↦ λ is. sym (all_others k (keys_of es) (subst (λ (n : ℕ). AllByRecursion (λ j. nat_eq n j ≡ false) (keys_of es)) (sym (eqb-true k e.0 is)) distinct.0))
        | false ↦ λ is. ap (λ l. e.0 ∷ l) (keys-remove es distinct.1)
      ] refl

  -- a key that isn't there leaves all of them
  pub keys-absent : (es : List (ℕ × X)) → lookup_entry (nat_eq k) es ≡ None → filter (λ j. not (nat_eq k j)) (keys_of es) ≡ keys_of es
  keys-absent [] none = refl
  keys-absent (e ∷ es) none =
      (elim (nat_eq k e.0) as (λ b. cond b (Some e) (lookup_entry (nat_eq k) es) ≡ None → cond (not b) (e.0 ∷ filter (λ j. not (nat_eq k j)) (keys_of es)) (filter (λ j. not (nat_eq k j)) (keys_of es)) ≡ e.0 ∷ keys_of es) [
        | true ↦ λ some. absurd (never e some)
        | false ↦ λ none. ap (λ l. e.0 ∷ l) (keys-absent es none)
      ]) none
    where
      never : {Y : Type 0} (y : Y) → Some y ≡ None → ⊥
      never y some = cc

  -- whether it is there
  pub any-lookup : (es : List (ℕ × X)) → list_any (nat_eq k) (keys_of es) ≡ is_some (lookup (nat_eq k) es)
  any-lookup [] = refl
  any-lookup (e ∷ es) =
      elim (nat_eq k e.0) as (λ b. (b || list_any (nat_eq k) (keys_of es)) ≡ is_some (cond b (Some e.1) (lookup (nat_eq k) es))) [
        | true ↦ refl
        | false ↦ any-lookup es
      ]

  -- the key of the pair that is there
  found_key : (es : List (ℕ × X)) (e : ℕ × X) → lookup_entry (nat_eq k) es ≡ Some e → e.0 ≡ k
  found_key [] e found = cc
  found_key (d ∷ es) e found =
      (elim (nat_eq k d.0) as (λ b. nat_eq k d.0 ≡ b → cond b (Some d) (lookup_entry (nat_eq k) es) ≡ Some e → e.0 ≡ k) [
        | true ↦ λ is some. ap (λ (p : ℕ × X). p.0) (sym (one d e some)) ∙ sym (eqb-true k d.0 is)
        | false ↦ λ is some. found_key es e some
      ]) refl found
    where
      one : {Y : Type 0} (x y : Y) → Some x ≡ Some y → x ≡ y
      one x y some = cc

  -- one fewer is left
  removed_one : (es : List (ℕ × X)) (e : ℕ × X) → lookup_entry (nat_eq k) es ≡ Some e → length (remove_entry (nat_eq k) es) + 1 ≡ length es
  removed_one [] e found = cc
  removed_one (d ∷ es) e found =
      (elim (nat_eq k d.0) as (λ b. cond b (Some d) (lookup_entry (nat_eq k) es) ≡ Some e → length (cond b es (d ∷ remove_entry (nat_eq k) es)) + 1 ≡ suc (length es)) [
        | true ↦ λ some. omega arith
        | false ↦ λ some. omega (arith, removed_one es e some)
      ]) found

-- ---- what is true of each pair

module _ {X : Type 0} (P : ℕ × X → Type 0) where
  pub all-take : (n : ℕ) (es : List (ℕ × X)) → AllByRecursion P es → AllByRecursion P (take n es)
  all-take zero es all = tt
  all-take (suc n) [] all = tt
  all-take (suc n) (e ∷ es) all = (all.0, all-take n es all.1)

  pub all-remove : (k : ℕ) (es : List (ℕ × X)) → AllByRecursion P es → AllByRecursion P (remove_entry (nat_eq k) es)
  all-remove k [] all = tt
  all-remove k (e ∷ es) all =
      elim (nat_eq k e.0) as (λ b. AllByRecursion P (cond b es (e ∷ remove_entry (nat_eq k) es))) [
        | true ↦ all.1
        | false ↦ (all.0, all-remove k es all.1)
      ]

-- ---- what `put` leaves

module _ {X : Type 0} (c : LruCache ℕ X) (k : ℕ) (v : X) where
  pub all-put : (P : ℕ × X → Type 0) → P (k, v) → AllByRecursion P c.entries → AllByRecursion P (put_entries nat_eq c k v)
  all-put P here all =
      elim (lookup_entry (nat_eq k) c.entries) as (λ o. lookup_entry (nat_eq k) c.entries ≡ o → AllByRecursion P (option_map_or (λ e. (e.0, v) ∷ remove_entry (nat_eq k) c.entries) o ((k, v) ∷ take (c.cap - 1) c.entries))) [
        | Some e ↦ λ is. (subst (λ (n : ℕ). P (n, v)) (sym (found_key k c.entries e is)) here, all-remove P k c.entries all)
        | None ↦ λ is. (here, all-take P (c.cap - 1) c.entries all)
      ] refl

  pub keys-put : IsValid nat_eq c → keys_of (put_entries nat_eq c k v) ≡ held_after c.cap k (keys_of c.entries)
  keys-put valid =
      let one : c.cap ≡ suc (c.cap - 1) = omega (arith, valid.2) in
      elim (lookup_entry (nat_eq k) c.entries) as (λ o. lookup_entry (nat_eq k) c.entries ≡ o → keys_of (option_map_or (λ e. (e.0, v) ∷ remove_entry (nat_eq k) c.entries) o ((k, v) ∷ take (c.cap - 1) c.entries)) ≡ held_after c.cap k (keys_of c.entries)) [
        | Some e ↦ λ is.
            let rest : keys_of (remove_entry (nat_eq k) c.entries) ≡ filter (λ j. not (nat_eq k j)) (keys_of c.entries) = keys-remove k c.entries valid.0 in
            let count : length (keys_of (remove_entry (nat_eq k) c.entries)) ≡ length (remove_entry (nat_eq k) c.entries) = length-map (remove_entry (nat_eq k) c.entries) (λ p. p.0) in
            let few : length (k ∷ filter (λ j. not (nat_eq k j)) (keys_of c.entries)) ≤ c.cap = omega (arith, ap length rest, count, removed_one k c.entries e is, valid.1) in
            ap (λ n. n ∷ keys_of (remove_entry (nat_eq k) c.entries)) (found_key k c.entries e is) ∙ ap (λ l. k ∷ l) rest
            ∙ sym (take_all c.cap (k ∷ filter (λ j. not (nat_eq k j)) (keys_of c.entries)) few)
        | None ↦ λ is.
            ap (λ l. k ∷ l) (sym (take-map (λ (p : ℕ × X). p.0) (c.cap - 1) c.entries) ∙ ap (take (c.cap - 1)) (sym (keys-absent k c.entries is)))
            ∙ ap (λ m. take m (k ∷ filter (λ j. not (nat_eq k j)) (keys_of c.entries))) (sym one)
      ] refl

-- ---- a pair by its place

past_end : {Y : Type 0} (xs : List Y) (n : ℕ) → length xs ≤ n → slice_get xs n ≡ None
past_end [] n h = refl
past_end (x ∷ xs) zero h = absurd (omega arith)
past_end (x ∷ xs) (suc n) h = past_end xs n (omega arith)

in_between : {Y : Type 0} (xs : List Y) (y : Y) (ys : List Y) → slice_get (xs ++ y ∷ ys) (length xs) ≡ Some y
in_between [] y ys = refl
in_between (x ∷ xs) y ys = in_between xs y ys

module _ {A K X : Type 0} (shows : A → K × X) where
  -- calls of `next` passed over n pairs and gave this one
  pub nth-shows : (s u : List (K × X)) (n : ℕ) (r : Option A) → SkipsThenYields (TakesFirst shows) s n r u → option_map (λ x. (shows x).0) r ≡ slice_get (keys_of s) n
  nth-shows s u n None (xs, (t, yields, last), few) =
      let all : s ≡ map shows xs ++ t = rest_so_far shows xs s t yields in
      let none : t ≡ [] = last.0 in
      let size : length (keys_of s) ≤ n = omega (arith, ap length all, length-append (map shows xs) t, ap length none, length-map xs shows, length-map s (λ p. p.0), few) in
      sym (past_end (keys_of s) n size)
  nth-shows s u n (Some x) (xs, (t, yields, last), count) =
      let all : s ≡ map shows xs ++ shows x ∷ u = rest_so_far shows xs s t yields ∙ ap (λ l. map shows xs ++ l) last in
      let keys : keys_of s ≡ keys_of (map shows xs) ++ (shows x).0 ∷ keys_of u = ap keys_of all ∙ map-append (λ p. p.0) (map shows xs) (shows x ∷ u) in
      let place : length (keys_of (map shows xs)) ≡ n = length-map (map shows xs) (λ p. p.0) ∙ length-map xs shows ∙ count in
      sym (ap (λ l. slice_get l n) keys ∙ ap (λ m. slice_get (keys_of (map shows xs) ++ (shows x).0 ∷ keys_of u) m) (sym place)
      ∙ in_between (keys_of (map shows xs)) (shows x).0 (keys_of u))
