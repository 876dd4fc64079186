-- The tiles that exist: each is of a cell of an order up to 11, each tile with rows is among them, and they are few.
use Rattle.std.proofs.Common.{◌≡◌, ℕ, zero, suc, ◌+◌, ◌*◌, ◌^◌, ◌≤◌, ◌<◌, Bool, true, false, cond, List, [], ◌∷◌, ◌++◌, map, length, take, Some, refl, sym, ap, subst, arith, ◌⊎◌, inl, inr, length-append}
use Rattle.std.specs.Prelude.{slice_get, nat_lt, nat_le}
use Rattle.std.specs.List.{AllByRecursion as All, filter, flat_map, range_with_len}
use Rattle.std.proofs.lemmas.Bool.{and_parts}
use Rattle.std.proofs.lemmas.Bool.Decides.{nat_tests}
use Rattle.healpix_nested.specs.Cells.{NestedCell, cell_count}
use Rattle.healpix_nested.specs.CellLaws.{four_pow_mono}
use Rattle.tile_path.specs.Spelling.{IsTile}
use Rattle.hips_catalog.specs.Rows.{Source, in_order}
use Rattle.hips_catalog.specs.Held.{is_under, rest_of, held}
use Rattle.hips_catalog.specs.Catalogue.{Catalogue, tile_rows, has_some, tiles_of_order, existing_tiles}
use Rattle.hips_catalog.specs.TileText.{text_of, tile_text}

-- ---- lists

module _ {T : Type 0} where
  abbrev IsOneOf : T → List T → Type 0
  IsOneOf x [] = ⊥
  IsOneOf x (y ∷ ys) = (x ≡ y) ⊎ IsOneOf x ys

  one_left : (x : T) (xs ys : List T) → IsOneOf x xs → IsOneOf x (xs ++ ys)
  one_left x [] ys m = absurd m
  one_left x (y ∷ xs) ys m = elim m [ inl e ↦ inl e | inr n ↦ inr (one_left x xs ys n) ]

  one_right : (x : T) (xs ys : List T) → IsOneOf x ys → IsOneOf x (xs ++ ys)
  one_right x [] ys m = m
  one_right x (y ∷ xs) ys m = inr (one_right x xs ys m)

  -- at some place
  place_of : (x : T) (xs : List T) → IsOneOf x xs → (i : ℕ) × (slice_get xs i ≡ Some x)
  place_of x [] m = absurd m
  place_of x (y ∷ ys) (inl e) = (zero, ap Some (sym e))
  place_of x (y ∷ ys) (inr n) = let later = place_of x ys n in (suc later.0, later.1)

  -- what holds of all holds of the one at a place
  at_place : (P : T → Type 0) (xs : List T) (i : ℕ) (x : T) → All P xs → slice_get xs i ≡ Some x → P x
  at_place P [] i x all e = cc
  at_place P (y ∷ ys) zero x all e = let same : y ≡ x = cc in subst P same all.0
  at_place P (y ∷ ys) (suc i) x all e = at_place P ys i x all.1 e

  all_append : (P : T → Type 0) (xs ys : List T) → All P xs → All P ys → All P (xs ++ ys)
  all_append P [] ys h g = g
  all_append P (x ∷ xs) ys h g = (h.0, all_append P xs ys h.1 g)

  weaker : (P Q : T → Type 0) → ((x : T) → P x → Q x) → (xs : List T) → All P xs → All Q xs
  weaker P Q f [] h = tt
  weaker P Q f (x ∷ xs) h = (f x h.0, weaker P Q f xs h.1)

  picked_all : (P : T → Type 0) (test : T → Bool) (xs : List T) → All P xs → All P (filter test xs)
  picked_all P test [] h = tt
  picked_all P test (x ∷ xs) h = elim (test x) as (λ b. All P (cond b (x ∷ filter test xs) (filter test xs))) [ true ↦ (h.0, picked_all P test xs h.1) | false ↦ picked_all P test xs h.1 ]

  picked_meet : (test : T → Bool) (xs : List T) → All (λ x. test x ≡ true) (filter test xs)
  picked_meet test [] = tt
  picked_meet test (x ∷ xs) = elim (test x) as (λ b. test x ≡ b → All (λ y. test y ≡ true) (cond b (x ∷ filter test xs) (filter test xs))) [ true ↦ λ e. (e, picked_meet test xs) | false ↦ λ e. picked_meet test xs ] refl

  picked_one : (test : T → Bool) (x : T) (xs : List T) → test x ≡ true → IsOneOf x xs → IsOneOf x (filter test xs)
  picked_one test x [] t m = absurd m
  picked_one test x (y ∷ ys) t (inl e) = subst (λ b. IsOneOf x (cond b (y ∷ filter test ys) (filter test ys))) (sym (subst (λ z. test z ≡ true) e t)) (inl e)
  picked_one test x (y ∷ ys) t (inr n) =
      let later = picked_one test x ys t n in
      elim (test y) as (λ b. IsOneOf x (cond b (y ∷ filter test ys) (filter test ys))) [ true ↦ inr later | false ↦ later ]

  picked_few : (test : T → Bool) (xs : List T) → length (filter test xs) ≤ length xs
  picked_few test [] = omega arith
  picked_few test (x ∷ xs) =
      let few = picked_few test xs in
      elim (test x) as (λ b. length (cond b (x ∷ filter test xs) (filter test xs)) ≤ length (x ∷ xs)) [ true ↦ omega (arith, few) | false ↦ omega (arith, few) ]

  taken_all : (P : T → Type 0) (n : ℕ) (xs : List T) → All P xs → All P (take n xs)
  taken_all P zero xs h = tt
  taken_all P (suc n) [] h = tt
  taken_all P (suc n) (x ∷ xs) h = (h.0, taken_all P n xs h.1)

module _ {T U : Type 0} where
  map_all : (P : U → Type 0) (f : T → U) (xs : List T) → All (λ x. P (f x)) xs → All P (map f xs)
  map_all P f [] h = tt
  map_all P f (x ∷ xs) h = (h.0, map_all P f xs h.1)

  map_one : (f : T → U) (x : T) (xs : List T) → IsOneOf x xs → IsOneOf (f x) (map f xs)
  map_one f x [] m = absurd m
  map_one f x (y ∷ ys) (inl e) = inl (ap f e)
  map_one f x (y ∷ ys) (inr n) = inr (map_one f x ys n)

  map_length : (f : T → U) (xs : List T) → length (map f xs) ≡ length xs
  map_length f [] = refl
  map_length f (x ∷ xs) = ap suc (map_length f xs)

  flat_all : (P : U → Type 0) (f : T → List U) (xs : List T) → All (λ x. All P (f x)) xs → All P (flat_map f xs)
  flat_all P f [] h = tt
  flat_all P f (x ∷ xs) h = all_append P (f x) (flat_map f xs) h.0 (flat_all P f xs h.1)

  flat_one : (f : T → List U) (u : U) (x : T) (xs : List T) → IsOneOf x xs → IsOneOf u (f x) → IsOneOf u (flat_map f xs)
  flat_one f u x [] m h = absurd m
  flat_one f u x (y ∷ ys) (inl e) h = one_left u (f y) (flat_map f ys) (subst (λ z. IsOneOf u (f z)) e h)
  flat_one f u x (y ∷ ys) (inr n) h = one_right u (f y) (flat_map f ys) (flat_one f u x ys n h)

  flat_few : (f : T → List U) (most : ℕ) (xs : List T) → All (λ x. length (f x) ≤ most) xs → length (flat_map f xs) ≤ length xs * most
  flat_few f most [] h = omega arith
  flat_few f most (x ∷ xs) h =
      let later = flat_few f most xs h.1 in
      let here : length (f x) ≤ most = h.0 in
      let size = length-append (f x) (flat_map f xs) in
      grind (arith, later, here, size)

range_within : (a n : ℕ) → All (λ p. (a ≤ p) × (p < a + n)) (range_with_len a n)
range_within a zero = tt
range_within a (suc n) =
    ((omega arith, omega arith), weaker (λ p. (a + 1 ≤ p) × (p < a + 1 + n)) (λ p. (a ≤ p) × (p < a + suc n)) (λ p h. let l : a + 1 ≤ p = h.0 in let u : p < a + 1 + n = h.1 in (omega (arith, l), omega (arith, u))) (range_with_len (a + 1) n) (range_within (a + 1) n))

range_length : (a n : ℕ) → length (range_with_len a n) ≡ n
range_length a zero = refl
range_length a (suc n) = ap suc (range_length (a + 1) n)

range_one : (a n p : ℕ) → a ≤ p → p < a + n → IsOneOf p (range_with_len a n)
range_one a zero p h g = absurd (omega (arith, h, g))
range_one a (suc n) p h g = at (nat_lt a p) refl (range_one (a + 1) n p)
  where
    at : (t : Bool) → nat_lt a p ≡ t → (a + 1 ≤ p → p < a + 1 + n → IsOneOf p (range_with_len (a + 1) n)) → (p ≡ a) ⊎ IsOneOf p (range_with_len (a + 1) n)
    at true e more = let above : a < p = grind (arith, nat_tests) in inr (more (omega (arith, above)) (omega (arith, g)))
    at false e more = let below : p ≤ a = grind (arith, nat_tests) in inl (omega (arith, below, h))

-- ---- the tiles that exist

abbrev cell_at : ℕ → ℕ → NestedCell
cell_at k p = record { order = k; npix = p }

abbrev has_rows : Catalogue → ℕ → ℕ → Bool
has_rows c k p = has_some (tile_rows c k p)

order_tiles : (c : Catalogue) (k : ℕ) → k ≤ 11 → All (λ d. IsTile d.order d.npix) (tiles_of_order c k)
order_tiles c k low =
    map_all (λ d. IsTile d.order d.npix) (cell_at k) (filter (has_rows c k) (range_with_len 0 (cell_count k)))
    (picked_all (λ p. IsTile k p) (has_rows c k) (range_with_len 0 (cell_count k))
    (weaker (λ p. (0 ≤ p) × (p < 0 + cell_count k)) (λ p. IsTile k p) (λ p h. let u : p < 0 + cell_count k = h.1 in record { cell = record { known_order = omega (arith, low); in_order = omega (arith, u) }; order_at_most_11 = low }) (range_with_len 0 (cell_count k)) (range_within 0 (cell_count k))))

all_tiles : (c : Catalogue) → c.top ≤ 11 → All (λ d. IsTile d.order d.npix) (existing_tiles c)
all_tiles c low =
    flat_all (λ d. IsTile d.order d.npix) (tiles_of_order c) (range_with_len 0 (c.top + 1))
    (weaker (λ k. (0 ≤ k) × (k < 0 + (c.top + 1))) (λ k. All (λ d. IsTile d.order d.npix) (tiles_of_order c k)) (λ k h. let u : k < 0 + (c.top + 1) = h.1 in order_tiles c k (omega (arith, u, low))) (range_with_len 0 (c.top + 1)) (range_within 0 (c.top + 1)))

pub are_tiles : (c : Catalogue) → c.top ≤ 11 → (i : ℕ) (cell : NestedCell) → slice_get (existing_tiles c) i ≡ Some cell → IsTile cell.order cell.npix
are_tiles c low i cell e = at_place (λ d. IsTile d.order d.npix) (existing_tiles c) i cell (all_tiles c low) e

rest_under : (top n : ℕ) (ss : List Source) (k p : ℕ) → All (λ r. is_under top k p r ≡ true) (rest_of top n ss k p)
rest_under top n ss zero p = picked_meet (is_under top 0 p) ss
rest_under top n ss (suc k) p = picked_meet (is_under top (suc k) p) _

held_under : (top n : ℕ) (ss : List Source) (k p : ℕ) → All (λ r. is_under top k p r ≡ true) (held top n ss k p)
held_under top n ss k p =
    elim (nat_lt k top) as (λ b. All (λ r. is_under top k p r ≡ true) (cond b (take n (rest_of top n ss k p)) (rest_of top n ss k p))) [
      | true ↦ taken_all (λ r. is_under top k p r ≡ true) n (rest_of top n ss k p) (rest_under top n ss k p)
      | false ↦ rest_under top n ss k p
    ]

order_known : (top k p : ℕ) (ss : List Source) → All (λ r. is_under top k p r ≡ true) ss → has_some ss ≡ true → k ≤ top
order_known top k p [] a h = cc
order_known top k p (s ∷ ss) a h = let parts = and_parts (nat_le k top) _ a.0 in let low : nat_le k top ≡ true = parts.0 in grind (arith, nat_tests)

some_text : (ss : List Source) (text : List ℕ) → text_of ss ≡ Some text → has_some ss ≡ true
some_text [] text e = cc
some_text (s ∷ ss) text e = refl

pub are_all : (c : Catalogue) (k p : ℕ) → IsTile k p → (text : List ℕ) → tile_text c k p ≡ Some text → (i : ℕ) × (slice_get (existing_tiles c) i ≡ Some (record { order = k; npix = p }))
are_all c k p tile text e =
    let holds : has_rows c k p ≡ true = some_text (tile_rows c k p) text e in
    let known : k ≤ c.top = order_known c.top k p (tile_rows c k p) (held_under c.top c.per_tile (in_order c.rows) k p) holds in
    let within : p < cell_count k = tile.cell.in_order in
    place_of (cell_at k p) (existing_tiles c)
    (flat_one (tiles_of_order c) (cell_at k p) k (range_with_len 0 (c.top + 1)) (range_one 0 (c.top + 1) k (omega arith) (omega (arith, known)))
    (map_one (cell_at k) p (filter (has_rows c k) (range_with_len 0 (cell_count k))) (picked_one (has_rows c k) p (range_with_len 0 (cell_count k)) holds (range_one 0 (cell_count k) p (omega arith) (omega (arith, within))))))

order_few : (c : Catalogue) (k : ℕ) → k ≤ 11 → length (tiles_of_order c k) ≤ 2 ^ 26
order_few c k low =
    let size = map_length (cell_at k) (filter (has_rows c k) (range_with_len 0 (cell_count k))) in
    let picked = picked_few (has_rows c k) (range_with_len 0 (cell_count k)) in
    let all = range_length 0 (cell_count k) in
    let most = four_pow_mono k 11 low in
    omega (arith, size, picked, all, most)

pub are_few : (c : Catalogue) → c.top ≤ 11 → length (existing_tiles c) < 2 ^ 32
are_few c low =
    let few = flat_few (tiles_of_order c) (2 ^ 26) (range_with_len 0 (c.top + 1))
    (weaker (λ k. (0 ≤ k) × (k < 0 + (c.top + 1))) (λ k. length (tiles_of_order c k) ≤ 2 ^ 26) (λ k h. let u : k < 0 + (c.top + 1) = h.1 in order_few c k (omega (arith, u, low))) (range_with_len 0 (c.top + 1)) (range_within 0 (c.top + 1))) in
    let size = range_length 0 (c.top + 1) in
    omega (arith, few, size, low)
