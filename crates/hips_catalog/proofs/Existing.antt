-- The cells of the tiles that are kept are those whose tiles exist, in the same order.
use Rattle.std.proofs.Common.{◌≡◌, ℕ, zero, suc, ◌+◌, ◌*◌, ◌^◌, ◌≤◌, ◌<◌, Bool, true, false, cond, ltb, List, [], ◌∷◌, ◌++◌, map, length, take, refl, sym, ap, ◌∙◌, subst, arith, ◌⊎◌, inl, inr}
use Rattle.std.proofs.Math.Nat.{pow-succ'}
use Rattle.std.proofs.lemmas.Bool.{ltb-true, ltb-false}
use Rattle.std.specs.Prelude.{slice_get, option_map}
use Rattle.std.specs.List.{AllByRecursion as All, filter, flat_map, range_with_len}
use Rattle.healpix_nested.specs.Cells.{NestedCell, IsCell, uniq_number, cell_count}
use Rattle.hips_catalog.specs.Rows.{Source, in_order}
use Rattle.hips_catalog.specs.Held.{is_under, rest_of, held}
use Rattle.hips_catalog.specs.Catalogue.{Catalogue, tile_rows, has_some, existing_tiles}
use Rattle.hips_catalog.specs.Kept.{IsKeptCatalogue}
use Rattle.hips_catalog.specs.Tiles.{sources, is_of, rows_at, number, AreListed, IsOneOf}
use Rattle.hips_catalog.specs.declared.tile.Tile.{Tile}
use Rattle.hips_catalog.proofs.Order.{either}
use Rattle.hips_catalog.proofs.Shared.{get_map}
use Rattle.hips_catalog.proofs.Steps.{picked_all, picked_meet, taken_all}
use Rattle.hips_catalog.proofs.Descent.{rest_under, under_parts}
use Rattle.hips_catalog.proofs.Listed.{the_cell}

-- ---- lists of cells by ascending numbers

abbrev at : NestedCell → ℕ
at c = uniq_number c.order c.npix

abbrev Ascend : List NestedCell → Type 0
Ascend [] = Unit {0}
Ascend (c ∷ cs) = All (λ d. at c < at d) cs × Ascend cs

pub one_all : (P : NestedCell → Type 0) (cs : List NestedCell) (c : NestedCell) → IsOneOf c cs → All P cs → P c
one_all P [] c m h = absurd m
one_all P (d ∷ ds) c m h = elim m [ inl e ↦ subst P (sym e) h.0 | inr n ↦ one_all P ds c n h.1 ]

first_same : (x y : NestedCell) (xs ys : List NestedCell) → Ascend (x ∷ xs) → Ascend (y ∷ ys) → IsOneOf x (y ∷ ys) → IsOneOf y (x ∷ xs) → x ≡ y
first_same x y xs ys a b m k = elim m [
  | inl e ↦ e
  | inr n ↦ elim k [
    | inl e ↦ sym e
    | inr l ↦
        let h : at y < at x = one_all (λ d. at y < at d) ys x n b.0 in
        let g : at x < at y = one_all (λ d. at x < at d) xs y l a.0 in
        absurd (omega (arith, h, g))
  ]
]

tail_of : (x y : NestedCell) (xs ys : List NestedCell) → x ≡ y → All (λ d. at x < at d) xs → ((c : NestedCell) → IsOneOf c (x ∷ xs) → IsOneOf c (y ∷ ys)) → (c : NestedCell) → IsOneOf c xs → IsOneOf c ys
tail_of x y xs ys e a f c m = elim (f c (inr m)) [
  | inl i ↦
      let h : at x < at c = one_all (λ d. at x < at d) xs c m a in
      let q : at c ≡ at x = ap at (i ∙ sym e) in absurd (omega (arith, h, q))
  | inr n ↦ n
]

-- two such lists with the same cells are one
same_cells : (xs ys : List NestedCell) → Ascend xs → Ascend ys → ((c : NestedCell) → IsOneOf c xs → IsOneOf c ys) → ((c : NestedCell) → IsOneOf c ys → IsOneOf c xs) → xs ≡ ys
same_cells [] [] a b f g = refl
same_cells [] (y ∷ ys) a b f g = absurd (g y (inl refl))
same_cells (x ∷ xs) [] a b f g = absurd (f x (inl refl))
same_cells (x ∷ xs) (y ∷ ys) a b f g =
    let e : x ≡ y = first_same x y xs ys a b (f x (inl refl)) (g y (inl refl)) in
    let tails : xs ≡ ys = same_cells xs ys a.1 b.1 (tail_of x y xs ys e a.0 f) (tail_of y x ys xs (sym e) b.0 g) in
    ap (λ c. c ∷ xs) e ∙ ap (λ cs. y ∷ cs) tails

all_append : (P : NestedCell → Type 0) (xs ys : List NestedCell) → All P xs → All P ys → All P (xs ++ ys)
all_append P [] ys h g = g
all_append P (x ∷ xs) ys h g = (h.0, all_append P xs ys h.1 g)

all_weaker : (P Q : NestedCell → Type 0) (f : (c : NestedCell) → P c → Q c) (cs : List NestedCell) → All P cs → All Q cs
all_weaker P Q f [] h = tt
all_weaker P Q f (c ∷ cs) h = (f c h.0, all_weaker P Q f cs h.1)

append_ascends : (m : ℕ) (xs ys : List NestedCell) → Ascend xs → Ascend ys → All (λ c. at c < m) xs → All (λ c. m ≤ at c) ys → Ascend (xs ++ ys)
append_ascends m [] ys a b h g = b
append_ascends m (x ∷ xs) ys a b h g =
    let less : at x < m = h.0 in
    (all_append (λ d. at x < at d) xs ys a.0 (all_weaker (λ c. m ≤ at c) (λ c. at x < at c) (λ c l. omega (arith, less, l)) ys g), append_ascends m xs ys a.1 b h.1 g)

one_left : (c : NestedCell) (xs ys : List NestedCell) → IsOneOf c xs → IsOneOf c (xs ++ ys)
one_left c [] ys m = absurd m
one_left c (x ∷ xs) ys m = elim m [ inl e ↦ inl e | inr n ↦ inr (one_left c xs ys n) ]

one_right : (c : NestedCell) (xs ys : List NestedCell) → IsOneOf c ys → IsOneOf c (xs ++ ys)
one_right c [] ys m = m
one_right c (x ∷ xs) ys m = inr (one_right c xs ys m)

-- ---- numbers that count up

abbrev Rise : List ℕ → Type 0
Rise [] = Unit {0}
Rise (p ∷ ps) = All (λ q. p < q) ps × Rise ps

abbrev HasNumber : ℕ → List ℕ → Type 0
HasNumber p [] = ⊥
HasNumber p (q ∷ qs) = (p ≡ q) ⊎ HasNumber p qs

numbers_weaker : (P Q : ℕ → Type 0) (f : (p : ℕ) → P p → Q p) (ps : List ℕ) → All P ps → All Q ps
numbers_weaker P Q f [] h = tt
numbers_weaker P Q f (p ∷ ps) h = (f p h.0, numbers_weaker P Q f ps h.1)

range_within : (a n : ℕ) → All (λ p. (a ≤ p) × (p < a + n)) (range_with_len a n)
range_within a zero = tt
range_within a (suc n) =
    ((omega arith, omega arith), numbers_weaker (λ p. (a + 1 ≤ p) × (p < a + 1 + n)) (λ p. (a ≤ p) × (p < a + suc n)) (λ p h. let l : a + 1 ≤ p = h.0 in let u : p < a + 1 + n = h.1 in (omega (arith, l), omega (arith, u))) (range_with_len (a + 1) n) (range_within (a + 1) n))

range_rises : (a n : ℕ) → Rise (range_with_len a n)
range_rises a zero = tt
range_rises a (suc n) =
    (numbers_weaker (λ p. (a + 1 ≤ p) × (p < a + 1 + n)) (λ p. a < p) (λ p h. let l : a + 1 ≤ p = h.0 in omega (arith, l)) (range_with_len (a + 1) n) (range_within (a + 1) n), range_rises (a + 1) n)

cases_first : (a p : ℕ) → a ≤ p → (p ≡ a) ⊎ (a + 1 ≤ p)
cases_first a p h = elim (either (ltb a p)) [
  | inl t ↦ let l : a < p = ltb-true a p t in inr (omega (arith, l))
  | inr f ↦ let l : p ≤ a = ltb-false a p f in inl (omega (arith, h, l))
]

range_has : (a n p : ℕ) → a ≤ p → p < a + n → HasNumber p (range_with_len a n)
range_has a zero p h g = absurd (omega (arith, h, g))
range_has a (suc n) p h g = elim (cases_first a p h) [
  | inl e ↦ inl e
  | inr l ↦ inr (range_has (a + 1) n p l (omega (arith, g)))
]

picked_rise : (test : ℕ → Bool) (ps : List ℕ) → Rise ps → Rise (filter test ps)
picked_rise test [] h = tt
picked_rise test (p ∷ ps) h = elim (test p) as (λ b. Rise (cond b (p ∷ filter test ps) (filter test ps))) [ true ↦ (picked_all (λ q. p < q) test ps h.0, picked_rise test ps h.1) | false ↦ picked_rise test ps h.1 ]

picked_has : (test : ℕ → Bool) (p : ℕ) (ps : List ℕ) → test p ≡ true → HasNumber p ps → HasNumber p (filter test ps)
picked_has test p [] t m = absurd m
picked_has test p (q ∷ qs) t m = elim m [
  | inl e ↦ subst (λ b. HasNumber p (cond b (q ∷ filter test qs) (filter test qs))) (sym (subst (λ (r : ℕ). test r ≡ true) e t)) (inl e)
  | inr n ↦ let r : HasNumber p (filter test qs) = picked_has test p qs t n in elim (test q) as (λ b. HasNumber p (cond b (q ∷ filter test qs) (filter test qs))) [ true ↦ inr r | false ↦ r ]
]

-- ---- the cells of one order

abbrev pub cell_at : ℕ → ℕ → NestedCell
cell_at k p = record { order = k; npix = p }

cells_all : (P : NestedCell → Type 0) (k : ℕ) (ps : List ℕ) → All (λ p. P (cell_at k p)) ps → All P (map (cell_at k) ps)
cells_all P k [] h = tt
cells_all P k (p ∷ ps) h = (h.0, cells_all P k ps h.1)

cells_ascend : (k : ℕ) (ps : List ℕ) → Rise ps → Ascend (map (cell_at k) ps)
cells_ascend k [] h = tt
cells_ascend k (p ∷ ps) h = (cells_all (λ d. at (cell_at k p) < at d) k ps (numbers_weaker (λ q. p < q) (λ q. uniq_number k p < uniq_number k q) (λ q l. omega (arith, l)) ps h.0), cells_ascend k ps h.1)

cells_have : (k p : ℕ) (ps : List ℕ) → HasNumber p ps → IsOneOf (cell_at k p) (map (cell_at k) ps)
cells_have k p [] m = absurd m
cells_have k p (q ∷ qs) m = elim m [ inl e ↦ inl (ap (cell_at k) e) | inr n ↦ inr (cells_have k p qs n) ]

-- ---- the cells of all orders

abbrev of_order : (ℕ → ℕ → Bool) → ℕ → List NestedCell
of_order test k = map (cell_at k) (filter (test k) (range_with_len 0 (cell_count k)))

order_ascends : (test : ℕ → ℕ → Bool) (k : ℕ) → Ascend (of_order test k)
order_ascends test k = cells_ascend k (filter (test k) (range_with_len 0 (cell_count k))) (picked_rise (test k) (range_with_len 0 (cell_count k)) (range_rises 0 (cell_count k)))

order_within : (test : ℕ → ℕ → Bool) (k : ℕ) → All (λ c. (4 * 4 ^ k ≤ at c) × (at c < 16 * 4 ^ k)) (of_order test k)
order_within test k =
    cells_all (λ c. (4 * 4 ^ k ≤ at c) × (at c < 16 * 4 ^ k)) k (filter (test k) (range_with_len 0 (cell_count k)))
    (picked_all (λ p. (4 * 4 ^ k ≤ uniq_number k p) × (uniq_number k p < 16 * 4 ^ k)) (test k) (range_with_len 0 (cell_count k))
    (numbers_weaker (λ p. (0 ≤ p) × (p < 0 + cell_count k)) (λ p. (4 * 4 ^ k ≤ uniq_number k p) × (uniq_number k p < 16 * 4 ^ k))
    (λ p h. let u : p < 0 + 12 * 4 ^ k = h.1 in (omega arith, omega (arith, u))) (range_with_len 0 (cell_count k)) (range_within 0 (cell_count k))))

four_times : (k : ℕ) → 4 ^ (k + 1) ≡ 4 * 4 ^ k
four_times k = let e : k + 1 ≡ suc k = omega arith in ap (λ (m : ℕ). 4 ^ m) e ∙ pow-succ' 4 k

-- the cells from order a on ascend, and their numbers are no lower than those of that order
record Ordered (a : ℕ) (cs : List NestedCell) : Type 0 where
  ascend : Ascend cs
  least : All (λ c. 4 * 4 ^ a ≤ at c) cs

orders_ascend : (test : ℕ → ℕ → Bool) (a n : ℕ) → Ordered a (flat_map (of_order test) (range_with_len a n))
orders_ascend test a zero = record { ascend = tt; least = tt }
orders_ascend test a (suc n) =
    let later : Ordered (a + 1) (flat_map (of_order test) (range_with_len (a + 1) n)) = orders_ascend test (a + 1) n in
    let w = order_within test a in
    let four : 4 ^ (a + 1) ≡ 4 * 4 ^ a = four_times a in
    record {
      ascend = append_ascends (16 * 4 ^ a) (of_order test a) (flat_map (of_order test) (range_with_len (a + 1) n)) (order_ascends test a) later.ascend
          (all_weaker (λ c. (4 * 4 ^ a ≤ at c) × (at c < 16 * 4 ^ a)) (λ c. at c < 16 * 4 ^ a) (λ c h. h.1) (of_order test a) w)
          (all_weaker (λ c. 4 * 4 ^ (a + 1) ≤ at c) (λ c. 16 * 4 ^ a ≤ at c) (λ c h. omega (arith, h, four)) (flat_map (of_order test) (range_with_len (a + 1) n)) later.least);
      least = all_append (λ c. 4 * 4 ^ a ≤ at c) (of_order test a) (flat_map (of_order test) (range_with_len (a + 1) n))
          (all_weaker (λ c. (4 * 4 ^ a ≤ at c) × (at c < 16 * 4 ^ a)) (λ c. 4 * 4 ^ a ≤ at c) (λ c h. h.0) (of_order test a) w)
          (all_weaker (λ c. 4 * 4 ^ (a + 1) ≤ at c) (λ c. 4 * 4 ^ a ≤ at c) (λ c h. omega (arith, h, four)) (flat_map (of_order test) (range_with_len (a + 1) n)) later.least);
    }

flat_all : (P : NestedCell → Type 0) (f : ℕ → List NestedCell) → ((k : ℕ) → All P (f k)) → (ks : List ℕ) → All P (flat_map f ks)
flat_all P f h [] = tt
flat_all P f h (k ∷ ks) = all_append P (f k) (flat_map f ks) (h k) (flat_all P f h ks)

flat_has : (f : ℕ → List NestedCell) (c : NestedCell) (k : ℕ) (ks : List ℕ) → HasNumber k ks → IsOneOf c (f k) → IsOneOf c (flat_map f ks)
flat_has f c k [] m h = absurd m
flat_has f c k (j ∷ js) m h = elim m [
  | inl e ↦ one_left c (f j) (flat_map f js) (subst (λ (i : ℕ). IsOneOf c (f i)) e h)
  | inr n ↦ one_right c (f j) (flat_map f js) (flat_has f c k js n h)
]

-- ---- the tiles that exist

abbrev test_of : Catalogue → ℕ → ℕ → Bool
test_of c k p = has_some (tile_rows c k p)

existing_ascend : (c : Catalogue) → Ascend (existing_tiles c)
existing_ascend c = (orders_ascend (test_of c) 0 (c.top + 1)).ascend

pub existing_hold : (c : Catalogue) → All (λ d. has_some (tile_rows c d.order d.npix) ≡ true) (existing_tiles c)
existing_hold c =
    flat_all (λ d. has_some (tile_rows c d.order d.npix) ≡ true) (of_order (test_of c))
    (λ k. cells_all (λ d. has_some (tile_rows c d.order d.npix) ≡ true) k (filter (test_of c k) (range_with_len 0 (cell_count k))) (picked_meet (test_of c k) (range_with_len 0 (cell_count k)))) (range_with_len 0 (c.top + 1))

pub existing_has : (c : Catalogue) (k p : ℕ) → k ≤ c.top → p < cell_count k → has_some (tile_rows c k p) ≡ true → IsOneOf (cell_at k p) (existing_tiles c)
existing_has c k p h l t =
    flat_has (of_order (test_of c)) (cell_at k p) k (range_with_len 0 (c.top + 1)) (range_has 0 (c.top + 1) k (omega arith) (omega (arith, h)))
    (cells_have k p (filter (test_of c k) (range_with_len 0 (cell_count k))) (picked_has (test_of c k) p (range_with_len 0 (cell_count k)) t (range_has 0 (cell_count k) p (omega arith) (omega (arith, l)))))

-- ---- the tiles that are kept

tiles_all : (P : NestedCell → Type 0) (ts : List Tile) → All (λ t. P t.cell) ts → All P (map (λ t. t.cell) ts)
tiles_all P [] h = tt
tiles_all P (t ∷ ts) h = (h.0, tiles_all P ts h.1)

tiles_ascend : (ts : List Tile) → AreListed ts → Ascend (map (λ t. t.cell) ts)
tiles_ascend [] l = tt
tiles_ascend (t ∷ ts) l = (tiles_all (λ d. number t < at d) ts l.1, tiles_ascend ts l.2)

tiles_are_cells : (ts : List Tile) → AreListed ts → All (λ d. IsCell d.order d.npix) (map (λ t. t.cell) ts)
tiles_are_cells [] l = tt
tiles_are_cells (t ∷ ts) l = (l.0, tiles_are_cells ts l.2)

some_length : (ss : List Source) → has_some ss ≡ true → 0 < length ss
some_length [] h = absurd (grind (arith, h))
some_length (s ∷ ss) h = omega arith

pub length_some : (ss : List Source) → 0 < length ss → has_some ss ≡ true
length_some [] h = absurd (omega (arith, h))
length_some (s ∷ ss) h = refl

rows_somewhere : (ts : List Tile) (d : NestedCell) → 0 < length (rows_at ts d.order d.npix) → IsOneOf d (map (λ t. t.cell) ts)
rows_somewhere [] d h = absurd (omega (arith, h))
rows_somewhere (t ∷ ts) d h = elim (either (is_of d.order d.npix t)) [
  | inl e ↦ inl (sym (the_cell t d e))
  | inr f ↦ inr (rows_somewhere ts d (subst (λ b. 0 < length (cond b (sources t.rows) (rows_at ts d.order d.npix))) f h))
]

pub held_under : (top n : ℕ) (ss : List Source) (k p : ℕ) → All (λ r. is_under top k p r ≡ true) (held top n ss k p)
held_under top n ss k p =
    elim (ltb k top) as (λ b. All (λ r. is_under top k p r ≡ true) (cond b (take n (rest_of top n ss k p)) (rest_of top n ss k p))) [
      | true ↦ taken_all (λ r. is_under top k p r ≡ true) n (rest_of top n ss k p) (rest_under top n ss k p)
      | false ↦ rest_under top n ss k p
    ]

order_known : (top k p : ℕ) (ss : List Source) → All (λ r. is_under top k p r ≡ true) ss → has_some ss ≡ true → k ≤ top
order_known top k p [] a h = absurd (grind (arith, h))
order_known top k p (s ∷ ss) a h = (under_parts top s.npix k p a.0).0

kept_exists : (c : Catalogue) (ts : List Tile) → IsKeptCatalogue c ts → (d : NestedCell) → IsOneOf d (map (λ t. t.cell) ts) → IsOneOf d (existing_tiles c)
kept_exists c ts k d m =
    let some : 0 < length (rows_at ts d.order d.npix) = one_all (λ e. 0 < length (rows_at ts e.order e.npix)) (map (λ t. t.cell) ts) d m k.full in
    let holds : has_some (tile_rows c d.order d.npix) ≡ true = subst (λ ss. has_some ss ≡ true) (k.tiles_are d.order d.npix) (length_some (rows_at ts d.order d.npix) some) in
    let cell : IsCell d.order d.npix = one_all (λ e. IsCell e.order e.npix) (map (λ t. t.cell) ts) d m (tiles_are_cells ts k.listed) in
    existing_has c d.order d.npix (order_known c.top d.order d.npix (tile_rows c d.order d.npix) (held_under c.top c.per_tile (in_order c.rows) d.order d.npix) holds) cell.in_order holds

exists_kept : (c : Catalogue) (ts : List Tile) → IsKeptCatalogue c ts → (d : NestedCell) → IsOneOf d (existing_tiles c) → IsOneOf d (map (λ t. t.cell) ts)
exists_kept c ts k d m =
    let holds : has_some (tile_rows c d.order d.npix) ≡ true = one_all (λ e. has_some (tile_rows c e.order e.npix) ≡ true) (existing_tiles c) d m (existing_hold c) in
    rows_somewhere ts d (some_length (rows_at ts d.order d.npix) (subst (λ ss. has_some ss ≡ true) (sym (k.tiles_are d.order d.npix)) holds))

kept_are : (c : Catalogue) (ts : List Tile) → IsKeptCatalogue c ts → map (λ t. t.cell) ts ≡ existing_tiles c
kept_are c ts k = same_cells (map (λ t. t.cell) ts) (existing_tiles c) (tiles_ascend ts k.listed) (existing_ascend c) (kept_exists c ts k) (exists_kept c ts k)

pub tile_at : (c : Catalogue) (ts : List Tile) (i : ℕ) → IsKeptCatalogue c ts → option_map (λ (t : Tile). t.cell) (slice_get ts i) ≡ slice_get (existing_tiles c) i
tile_at c ts i k = sym (get_map (λ (t : Tile). t.cell) ts i) ∙ ap (λ cs. slice_get cs i) (kept_are c ts k)
