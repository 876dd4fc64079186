-- Tiles that are placed in: how many rows they have, and what a full one gives out.
use Rattle.std.proofs.Common.{◌≡◌, ℕ, zero, suc, ◌+◌, ◌*◌, ◌^◌, ◌≤◌, ◌<◌, true, false, cond, ltb, List, [], ◌∷◌, map, length, take, refl, sym, ap, ap₂, ◌∙◌, subst, arith, ◌⊎◌, inl, inr}
use Rattle.std.proofs.lemmas.Bool.{cases_eq}
use Rattle.std.specs.Prelude.{slice_get, Some, None}
use Rattle.std.specs.List.{AllByRecursion as All, insert, remove}
use Rattle.balanced_list.specs.Search.{leading}
use Rattle.healpix_nested.specs.Cells.{NestedCell, IsCell, uniq_number}
use Rattle.healpix_nested.specs.CellLaws.{known_power, four_pow_pos}
use Rattle.hips_catalog.specs.Rows.{Source, is_better, placed}
use Rattle.hips_catalog.specs.Tiles.{sources, is_of, rows_at, number, AreListed, HasTile, IsGap, OthersStay, OthersStayButTwo, HasSameCells, NoneIsEmpty}
use Rattle.hips_catalog.specs.declared.tile.Tile.{Tile}
use Rattle.hips_catalog.proofs.Order.{all_map}
use Rattle.hips_catalog.proofs.Listed.{tile_at, the_tile, got, no_tile, all_get, insert_here, insert_others, insert_listed, remove_here, remove_others, remove_listed, leading_within}

-- ---- how many tiles there are

highest : (t : Tile) → IsCell t.cell.order t.cell.npix → number t < 17592186044416
highest t h =
    let a : 4 ^ t.cell.order ≤ 2 ^ 40 = known_power t.cell.order h.known_order in
    let b : t.cell.npix < 12 * 4 ^ t.cell.order = h.in_order in omega (arith, a, b)

count_from : (ts : List Tile) (low : ℕ) → AreListed ts → All (λ s. low < number s) ts → (low + length ts ≤ 17592186044416) ⊎ (ts ≡ [])
count_from [] low l h = inr refl
count_from (t ∷ ts) low l h =
    let top : number t < 17592186044416 = highest t l.0 in
    let first : low < number t = h.0 in
    elim (count_from ts (number t) l.2 l.1) [
      | inl e ↦ inl (omega (arith, e, first))
      | inr e ↦ let z : length ts ≡ 0 = ap length e in inl (omega (arith, z, first, top))
    ]

number_positive : (t : Tile) → 0 < number t
number_positive t = let p : 0 < 4 ^ t.cell.order = four_pow_pos t.cell.order in omega (arith, p)

positive : (t : Tile) (ts : List Tile) → AreListed (t ∷ ts) → All (λ s. 0 < number s) (t ∷ ts)
positive t ts l =
    let first : 0 < number t = number_positive t in
    (first, all_map (λ s. number t < number s) (λ s. 0 < number s) (λ s g. omega (arith, first, g)) ts l.1)

pub few_tiles : (ts : List Tile) → AreListed ts → length ts + 1 < 18446744073709551616
few_tiles [] l = omega arith
few_tiles (t ∷ ts) l = elim (count_from (t ∷ ts) 0 l (positive t ts l)) [
  | inl e ↦ omega (arith, e)
  | inr e ↦ let z : length (t ∷ ts) ≡ 0 = ap length e in absurd (omega (arith, z))
]

-- ---- rows that are placed

pub placed_length : (x : Source) (ss : List Source) → length (placed x ss) ≡ length ss + 1
placed_length x [] = omega arith
placed_length x (s ∷ ss) =
    let h : length (placed x ss) ≡ length ss + 1 = placed_length x ss in
    elim (is_better s x) as (λ b. length (cond b (s ∷ placed x ss) (x ∷ s ∷ ss)) ≡ length (s ∷ ss) + 1) [ true ↦ omega (arith, h) | false ↦ omega arith ]

-- ---- no tile is empty

all_of : {T : Type 0} (P Q : T → Type 0) (f : (x : T) → P x → Q x) (xs : List T) → All P xs → All Q xs
all_of P Q f [] h = tt
all_of P Q f (x ∷ xs) h = (f x h.0, all_of P Q f xs h.1)

kept : (old new : List Tile) (k p : ℕ) → OthersStay k p old new → 0 < length (rows_at new k p) → (c : NestedCell) → 0 < length (rows_at old c.order c.npix) → 0 < length (rows_at new c.order c.npix)
kept old new k p o h c was = elim (cases_eq c.order k) [
  | inl e ↦ elim (cases_eq c.npix p) [
    | inl f ↦ subst (λ i. 0 < length (rows_at new i c.npix)) (sym e) (subst (λ r. 0 < length (rows_at new k r)) (sym f) h)
    | inr n ↦ subst (λ ys. 0 < length ys) (sym (o c.order c.npix (λ b. n b.1))) was
  ]
  | inr n ↦ subst (λ ys. 0 < length ys) (sym (o c.order c.npix (λ b. n b.0))) was
]

pub still_full : (old new : List Tile) (k p : ℕ) → HasSameCells old new → OthersStay k p old new → 0 < length (rows_at new k p) → NoneIsEmpty old → NoneIsEmpty new
still_full old new k p e o h f =
    subst (λ cs. All (λ (c : NestedCell). 0 < length (rows_at new c.order c.npix)) cs) (sym e)
    (all_of (λ (c : NestedCell). 0 < length (rows_at old c.order c.npix)) (λ (c : NestedCell). 0 < length (rows_at new c.order c.npix)) (kept old new k p o h) (map (λ t. t.cell) old) f)

all_with : {T : Type 0} (P : T → Type 0) (xs : List T) (at : ℕ) (x : T) → P x → All P xs → All P (insert xs at x)
all_with P xs zero x p h = (p, h)
all_with P [] (suc at) x p h = (p, tt)
all_with P (y ∷ ys) (suc at) x p h = (h.0, all_with P ys at x p h.1)

cells_with : (ts : List Tile) (at : ℕ) (new : Tile) → map (λ t. t.cell) (insert ts at new) ≡ insert (map (λ t. t.cell) ts) at new.cell
cells_with ts zero new = refl
cells_with [] (suc at) new = refl
cells_with (t ∷ ts) (suc at) new = ap (λ ys. t.cell ∷ ys) (cells_with ts at new)

pub full_with : (ts : List Tile) (at : ℕ) (new : Tile) → OthersStay new.cell.order new.cell.npix ts (insert ts at new) → 0 < length (rows_at (insert ts at new) new.cell.order new.cell.npix) →
    NoneIsEmpty ts → NoneIsEmpty (insert ts at new)
full_with ts at new o h f =
    let P : NestedCell → Type 0 = λ c. 0 < length (rows_at (insert ts at new) c.order c.npix) in
    subst (λ cs. All P cs) (sym (cells_with ts at new))
    (all_with P (map (λ t. t.cell) ts) at new.cell h (all_of (λ (c : NestedCell). 0 < length (rows_at ts c.order c.npix)) P (kept ts (insert ts at new) new.cell.order new.cell.npix o h) (map (λ t. t.cell) ts) f))

-- ---- a full tile

-- put in and not cut, cut, or put at the end of a full tile
pub insert_last : {T : Type 0} (x : T) (ss : List T) (n : ℕ) → length ss ≡ n → (take n (insert ss n x) ≡ ss) × (slice_get (insert ss n x) n ≡ Some x)
insert_last x [] zero e = (refl, refl)
insert_last x [] (suc n) e = absurd (omega (arith, e))
insert_last x (s ∷ ss) zero e = absurd (omega (arith, e))
insert_last x (s ∷ ss) (suc n) e = let r = insert_last x ss n (omega (arith, e)) in (ap (λ ys. s ∷ ys) r.0, r.1)

pub cut_last : {T : Type 0} (xs : List T) (n : ℕ) → length xs ≡ n + 1 → remove xs n ≡ take n xs
cut_last [] n e = absurd (omega (arith, e))
cut_last (x ∷ []) zero e = refl
cut_last (x ∷ y ∷ ys) zero e = absurd (omega (arith, e))
cut_last (x ∷ xs) (suc n) e = ap (λ ys. x ∷ ys) (cut_last xs n (omega (arith, e)))

pub remove_length : {T : Type 0} (xs : List T) (i : ℕ) → i < length xs → length (remove xs i) + 1 ≡ length xs
remove_length [] i h = absurd (omega (arith, h))
remove_length (x ∷ xs) zero h = omega arith
remove_length (x ∷ xs) (suc i) h = let e : length (remove xs i) + 1 ≡ length xs = remove_length xs i (omega (arith, h)) in omega (arith, e)

pub insert_some : {T : Type 0} (xs : List T) (i : ℕ) (x : T) → 0 < length (insert xs i x)
insert_some xs zero x = omega arith
insert_some [] (suc i) x = omega arith
insert_some (y ∷ ys) (suc i) x = omega arith

pub remove_only : {T : Type 0} (xs : List T) (i : ℕ) → length xs ≡ 1 → i < length xs → remove xs i ≡ []
remove_only [] i e h = absurd (omega (arith, h))
remove_only (x ∷ []) zero e h = refl
remove_only (x ∷ y ∷ ys) i e h = absurd (omega (arith, e))
remove_only (x ∷ xs) (suc i) e h = absurd (omega (arith, e, h))

pub take_some : {T : Type 0} (n : ℕ) (xs : List T) → 0 < n → 0 < length xs → 0 < length (take n xs)
take_some zero xs h g = absurd (omega (arith, h))
take_some (suc n) [] h g = absurd (omega (arith, g))
take_some (suc n) (x ∷ xs) h g = omega arith

pub take_one : {T : Type 0} (x : T) (n : ℕ) → 0 < n → (take n (x ∷ []) ≡ x ∷ []) × (slice_get (x ∷ []) n ≡ None)
take_one x zero h = absurd (omega (arith, h))
take_one x (suc zero) h = (refl, refl)
take_one x (suc (suc n)) h = (refl, refl)

-- ---- a tile of one's own

pub record Added (ts new : List Tile) (cell : NestedCell) (rows : List Source) : Type 0 where
  pub rows_are : rows_at new cell.order cell.npix ≡ rows
  pub others : OthersStay cell.order cell.npix ts new
  pub listed : AreListed new

gap_place : (ts : List Tile) (at : ℕ) (tile : Tile) → IsGap ts at tile.cell → at ≡ leading (λ t. ltb (number t) (number tile)) ts
gap_place ts at tile g = g.place

added_own : (ts : List Tile) (at : ℕ) (tile : Tile) → AreListed ts → IsGap ts at tile.cell → IsCell tile.cell.order tile.cell.npix → Added ts (insert ts at tile) tile.cell (sources tile.rows)
added_own ts at tile l g i =
    let e : at ≡ leading (λ t. ltb (number t) (number tile)) ts = gap_place ts at tile g in
    let o : (t : Tile) → slice_get ts (leading (λ t. ltb (number t) (number tile)) ts) ≡ Some t → is_of tile.cell.order tile.cell.npix t ≡ false = λ t f. g.other t (ap (slice_get ts) e ∙ f) in
    record {
      rows_are = subst (λ m. rows_at (insert ts m tile) tile.cell.order tile.cell.npix ≡ sources tile.rows) (sym e) (insert_here ts tile l i o);
      others = insert_others ts at tile;
      listed = subst (λ m. AreListed (insert ts m tile)) (sym e) (insert_listed ts tile l i o);
    }

pub added : (ts new : List Tile) (at : ℕ) (cell : NestedCell) (tile : Tile) → AreListed ts → IsGap ts at cell → IsCell cell.order cell.npix → tile.cell ≡ cell → new ≡ insert ts at tile →
    Added ts new cell (sources tile.rows)
added ts new at cell tile l g i c e =
    subst (λ ys. Added ts ys cell (sources tile.rows)) (sym e)
    (subst (λ (d : NestedCell). Added ts (insert ts at tile) d (sources tile.rows)) c
    (added_own ts at tile l (subst (λ (d : NestedCell). IsGap ts at d) (sym c) g) (subst (λ (d : NestedCell). IsCell d.order d.npix) (sym c) i)))

pub added_full : (ts new : List Tile) (at : ℕ) (cell : NestedCell) (tile : Tile) → Added ts new cell (sources tile.rows) → tile.cell ≡ cell → new ≡ insert ts at tile → 0 < length (sources tile.rows) →
    NoneIsEmpty ts → NoneIsEmpty new
added_full ts new at cell tile a c e h f =
    let P : NestedCell → Type 0 = λ c. 0 < length (rows_at new c.order c.npix) in
    let some : 0 < length (rows_at new cell.order cell.npix) = subst (λ ys. 0 < length ys) (sym a.rows_are) h in
    let cells : map (λ t. t.cell) new ≡ insert (map (λ t. t.cell) ts) at cell = ap (map (λ t. t.cell)) e ∙ cells_with ts at tile ∙ ap (insert (map (λ t. t.cell) ts) at) c in
    subst (λ cs. All P cs) (sym cells)
    (all_with P (map (λ t. t.cell) ts) at cell some (all_of (λ (c : NestedCell). 0 < length (rows_at ts c.order c.npix)) P (kept ts new cell.order cell.npix a.others some) (map (λ t. t.cell) ts) f))

pub gap_within : (ts : List Tile) (at : ℕ) (cell : NestedCell) → IsGap ts at cell → at ≤ length ts
gap_within ts at cell g =
    let e : at ≡ leading (λ t. ltb (number t) (uniq_number cell.order cell.npix)) ts = g.place in
    let h = leading_within (λ t. ltb (number t) (uniq_number cell.order cell.npix)) ts in omega (arith, e, h)

-- ---- two tiles

other_two : (old new : List Tile) (cell child : NestedCell) → OthersStayButTwo cell child old new → 0 < length (rows_at new child.order child.npix) →
    (c : NestedCell) → ¬ ((c.order ≡ cell.order) × (c.npix ≡ cell.npix)) → 0 < length (rows_at old c.order c.npix) → 0 < length (rows_at new c.order c.npix)
other_two old new cell child o g c n was = elim (cases_eq c.order child.order) [
  | inl ek ↦ elim (cases_eq c.npix child.npix) [
    | inl ep ↦ subst (λ i. 0 < length (rows_at new i c.npix)) (sym ek) (subst (λ r. 0 < length (rows_at new child.order r)) (sym ep) g)
    | inr m ↦ subst (λ ys. 0 < length ys) (sym (o c.order c.npix n (λ b. m b.1))) was
  ]
  | inr m ↦ subst (λ ys. 0 < length ys) (sym (o c.order c.npix n (λ b. m b.0))) was
]

pub still_full_two : (old new : List Tile) (cell child : NestedCell) → HasSameCells old new → OthersStayButTwo cell child old new →
    0 < length (rows_at new cell.order cell.npix) → 0 < length (rows_at new child.order child.npix) → NoneIsEmpty old → NoneIsEmpty new
still_full_two old new cell child e o h g f =
    let P : NestedCell → Type 0 = λ c. 0 < length (rows_at new c.order c.npix) in
    let stays : (c : NestedCell) → 0 < length (rows_at old c.order c.npix) → P c = λ c was. elim (cases_eq c.order cell.order) [
      | inl ek ↦ elim (cases_eq c.npix cell.npix) [
        | inl ep ↦ subst (λ i. 0 < length (rows_at new i c.npix)) (sym ek) (subst (λ r. 0 < length (rows_at new cell.order r)) (sym ep) h)
        | inr n ↦ other_two old new cell child o g c (λ b. n b.1) was
      ]
      | inr n ↦ other_two old new cell child o g c (λ b. n b.0) was
    ] in
    subst (λ cs. All P cs) (sym e) (all_of (λ (c : NestedCell). 0 < length (rows_at old c.order c.npix)) P stays (map (λ t. t.cell) old) f)

-- ---- a tile less

later_apart : (ts : List Tile) (u k p : ℕ) → u ≡ uniq_number k p → All (λ s. u < number s) ts → All (λ (c : NestedCell). ¬ ((c.order ≡ k) × (c.npix ≡ p))) (map (λ t. t.cell) ts)
later_apart [] u k p e h = tt
later_apart (t ∷ ts) u k p e h =
    ((λ b. let m : number t ≡ uniq_number k p = ap₂ (λ (i : ℕ) (r : ℕ). uniq_number i r) b.0 b.1 in let g : u < number t = h.0 in absurd (omega (arith, e, g, m))), later_apart ts u k p e h.1)

others_apart : (ts : List Tile) (at : ℕ) (tile : Tile) (k p : ℕ) → AreListed ts → slice_get ts at ≡ Some tile → tile.cell.order ≡ k → tile.cell.npix ≡ p →
    All (λ (c : NestedCell). ¬ ((c.order ≡ k) × (c.npix ≡ p))) (map (λ t. t.cell) (remove ts at))
others_apart [] at tile k p l e ek ep = absurd (no_tile tile e)
others_apart (t ∷ ts) zero tile k p l e ek ep = later_apart ts (number t) k p (ap number (got t tile e) ∙ ap₂ (λ (i : ℕ) (r : ℕ). uniq_number i r) ek ep) l.1
others_apart (t ∷ ts) (suc at) tile k p l e ek ep =
    let h : number t < number tile = all_get (λ s. number t < number s) ts at tile l.1 e in
    let n : number tile ≡ uniq_number k p = ap₂ (λ (i : ℕ) (r : ℕ). uniq_number i r) ek ep in
    ((λ b. let m : number t ≡ uniq_number k p = ap₂ (λ (i : ℕ) (r : ℕ). uniq_number i r) b.0 b.1 in absurd (omega (arith, h, n, m))), others_apart ts at tile k p l.2 e ek ep)

all_both : {T : Type 0} (P Q R : T → Type 0) (f : (x : T) → P x → Q x → R x) (xs : List T) → All P xs → All Q xs → All R xs
all_both P Q R f [] h g = tt
all_both P Q R f (x ∷ xs) h g = (f x h.0 g.0, all_both P Q R f xs h.1 g.1)

cells_less : (ts : List Tile) (at : ℕ) (P : NestedCell → Type 0) → All P (map (λ t. t.cell) ts) → All P (map (λ t. t.cell) (remove ts at))
cells_less [] zero P h = tt
cells_less [] (suc at) P h = tt
cells_less (t ∷ ts) zero P h = h.1
cells_less (t ∷ ts) (suc at) P h = (h.0, cells_less ts at P h.1)

pub record Dropped (ts new : List Tile) (cell : NestedCell) : Type 0 where
  pub rows_are : rows_at new cell.order cell.npix ≡ []
  pub others : OthersStay cell.order cell.npix ts new
  pub listed : AreListed new
  pub full : NoneIsEmpty ts → NoneIsEmpty new

pub dropped : (ts new : List Tile) (at : ℕ) (cell : NestedCell) → AreListed ts → HasTile ts at cell → new ≡ remove ts at → Dropped ts new cell
dropped ts new at cell l h e = elim (the_tile ts at cell h) [
  | tile_at tile f c ↦
      let ek : tile.cell.order ≡ cell.order = ap (λ x. x.order) c in
      let ep : tile.cell.npix ≡ cell.npix = ap (λ x. x.npix) c in
      let o : OthersStay cell.order cell.npix ts (remove ts at) = remove_others ts at tile cell.order cell.npix f ek ep in
      subst (λ ys. Dropped ts ys cell) (sym e) (record {
        rows_are = remove_here ts at tile cell.order cell.npix l f ek ep;
        others = o;
        listed = remove_listed ts at l;
        full = λ g. all_both (λ (d : NestedCell). 0 < length (rows_at ts d.order d.npix)) (λ (d : NestedCell). ¬ ((d.order ≡ cell.order) × (d.npix ≡ cell.npix))) (λ (d : NestedCell). 0 < length (rows_at (remove ts at) d.order d.npix))
            (λ d was n. subst (λ ys. 0 < length ys) (sym (o d.order d.npix n)) was) (map (λ t. t.cell) (remove ts at))
            (cells_less ts at (λ (d : NestedCell). 0 < length (rows_at ts d.order d.npix)) g) (others_apart ts at tile cell.order cell.npix l f ek ep);
      })
]
