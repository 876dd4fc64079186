-- Tiles in the order of their numbers: what is found, put in and taken out.
use Rattle.std.proofs.Common.{◌≡◌, ◌≢◌, ℕ, zero, suc, ◌+◌, ◌≤◌, ◌<◌, ◌&&◌, Bool, true, false, cond, eqb, ltb, List, [], ◌∷◌, map, length, refl, sym, ap, ap₂, ◌∙◌, subst, arith, inl, inr}
use Rattle.std.proofs.lemmas.Bool.{and_parts, eqb-true, eq-eqb, ltb-true, ltb-false}
use Rattle.std.specs.Prelude.{slice_get, slice_set, slice_index_or, Some, None, unwrap_or}
use Rattle.std.specs.List.{AllByRecursion as All, insert, remove}
use Rattle.balanced_list.specs.Search.{leading, HoldsAtFirst}
use Rattle.healpix_nested.specs.Cells.{NestedCell, IsCell, uniq_number}
use Rattle.healpix_nested.specs.CellLaws.{uniq_number_injective}
use Rattle.hips_catalog.specs.Rows.{Source}
use Rattle.hips_catalog.specs.Tiles.{sources, is_of, rows_at, number, AreListed, OthersStay, HasTile, HasSameCells, HasNewRows, IsGap}
use Rattle.hips_catalog.specs.declared.tile.Tile.{Tile}
use Rattle.std.specs.Arc.{arc_value}
use Rattle.hips_catalog.proofs.Order.{either, not_both, all_map}
use Rattle.hips_catalog.proofs.Shared.{length_map}

-- ---- one tile

is_of_parts : (t : Tile) (k p : ℕ) → is_of k p t ≡ true → (t.cell.order ≡ k) × (t.cell.npix ≡ p)
is_of_parts t k p h = let a = and_parts (eqb t.cell.order k) (eqb t.cell.npix p) h in (eqb-true t.cell.order k a.0, eqb-true t.cell.npix p a.1)

is_of_from : (t : Tile) (k p : ℕ) → t.cell.order ≡ k → t.cell.npix ≡ p → is_of k p t ≡ true
is_of_from t k p e f =
    let a : eqb t.cell.order k ≡ true = eq-eqb t.cell.order k e in
    let b : eqb t.cell.npix p ≡ true = eq-eqb t.cell.npix p f in rw (a, b) refl

not_of : (t : Tile) (k p : ℕ) → ¬ ((t.cell.order ≡ k) × (t.cell.npix ≡ p)) → is_of k p t ≡ false
not_of t k p n = elim (either (is_of k p t)) [ inl h ↦ absurd (n (is_of_parts t k p h)) | inr f ↦ f ]

number_of : (t : Tile) (k p : ℕ) → t.cell.order ≡ k → t.cell.npix ≡ p → number t ≡ uniq_number k p
number_of t k p e f = ap₂ (λ (i : ℕ) (r : ℕ). uniq_number i r) e f

other_number : (t : Tile) (k p : ℕ) → number t ≢ uniq_number k p → is_of k p t ≡ false
other_number t k p n = not_of t k p (λ h. n (number_of t k p h.0 h.1))

-- ---- tiles

skip : (t : Tile) (ts : List Tile) (k p : ℕ) → is_of k p t ≡ false → rows_at (t ∷ ts) k p ≡ rows_at ts k p
skip t ts k p f = ap (λ b. cond b (sources t.rows) (rows_at ts k p)) f

first_is : (t : Tile) (ts : List Tile) (k p : ℕ) → is_of k p t ≡ true → rows_at (t ∷ ts) k p ≡ sources t.rows
first_is t ts k p h = ap (λ b. cond b (sources t.rows) (rows_at ts k p)) h

pub got : (t tile : Tile) → Some t ≡ Some tile → t ≡ tile
got t tile e = ap (λ o. unwrap_or o tile) e

pub no_tile : (tile : Tile) → None ≡ Some tile → ⊥
no_tile tile e = absurd (grind (arith, e))

pub all_get : (P : Tile → Type 0) (ts : List Tile) (at : ℕ) (tile : Tile) → All P ts → slice_get ts at ≡ Some tile → P tile
all_get P [] at tile h e = absurd (no_tile tile e)
all_get P (t ∷ ts) zero tile h e = subst P (got t tile e) h.0
all_get P (t ∷ ts) (suc at) tile h e = all_get P ts at tile h.1 e

none_of : (ts : List Tile) (k p : ℕ) → All (λ s. is_of k p s ≡ false) ts → rows_at ts k p ≡ []
none_of [] k p h = refl
none_of (t ∷ ts) k p h = skip t ts k p h.0 ∙ none_of ts k p h.1

pub rows_found : (ts : List Tile) (at : ℕ) (tile : Tile) (k p : ℕ) → AreListed ts → slice_get ts at ≡ Some tile → tile.cell.order ≡ k → tile.cell.npix ≡ p →
    rows_at ts k p ≡ sources tile.rows
rows_found [] at tile k p l e ek ep = absurd (no_tile tile e)
rows_found (t ∷ ts) zero tile k p l e ek ep =
    let f : t ≡ tile = got t tile e in
    first_is t ts k p (subst (λ s. is_of k p s ≡ true) (sym f) (is_of_from tile k p ek ep)) ∙ ap (λ s. sources s.rows) f
rows_found (t ∷ ts) (suc at) tile k p l e ek ep =
    let h : number t < number tile = all_get (λ s. number t < number s) ts at tile l.1 e in
    let n : number tile ≡ uniq_number k p = number_of tile k p ek ep in
    skip t ts k p (other_number t k p (λ m. absurd (omega (arith, h, n, m)))) ∙ rows_found ts at tile k p l.2 e ek ep

-- ---- a tile for another of the same cell

pub get_set : (ts : List Tile) (at : ℕ) (tile new : Tile) → slice_get ts at ≡ Some tile → slice_get (slice_set ts at new) at ≡ Some new
get_set [] at tile new e = absurd (no_tile tile e)
get_set (t ∷ ts) zero tile new e = refl
get_set (t ∷ ts) (suc at) tile new e = get_set ts at tile new e

set_all : (P : Tile → Type 0) (ts : List Tile) (at : ℕ) (new : Tile) → P new → All P ts → All P (slice_set ts at new)
set_all P [] at new p h = tt
set_all P (t ∷ ts) zero new p h = (p, h.1)
set_all P (t ∷ ts) (suc at) new p h = (h.0, set_all P ts at new p h.1)

pub set_listed : (ts : List Tile) (at : ℕ) (tile new : Tile) → AreListed ts → slice_get ts at ≡ Some tile → new.cell ≡ tile.cell → AreListed (slice_set ts at new)
set_listed [] at tile new l e c = absurd (no_tile tile e)
set_listed (t ∷ ts) zero tile new l e c =
    let f : t.cell ≡ new.cell = ap (λ s. s.cell) (got t tile e) ∙ sym c in
    (subst (λ d. IsCell d.order d.npix) f l.0, subst (λ d. All (λ s. uniq_number d.order d.npix < number s) ts) f l.1, l.2)
set_listed (t ∷ ts) (suc at) tile new l e c =
    let h : number t < number tile = all_get (λ s. number t < number s) ts at tile l.1 e in
    (l.0, set_all (λ s. number t < number s) ts at new (subst (λ d. number t < uniq_number d.order d.npix) (sym c) h) l.1, set_listed ts at tile new l.2 e c)

pub set_here : (ts : List Tile) (at : ℕ) (tile new : Tile) (k p : ℕ) → AreListed ts → slice_get ts at ≡ Some tile → new.cell ≡ tile.cell →
    tile.cell.order ≡ k → tile.cell.npix ≡ p → rows_at (slice_set ts at new) k p ≡ sources new.rows
set_here ts at tile new k p l e c ek ep =
    rows_found (slice_set ts at new) at new k p (set_listed ts at tile new l e c) (get_set ts at tile new e) (ap (λ d. d.order) c ∙ ek) (ap (λ d. d.npix) c ∙ ep)

pub set_others : (ts : List Tile) (at : ℕ) (tile new : Tile) (k p : ℕ) → slice_get ts at ≡ Some tile → new.cell ≡ tile.cell →
    tile.cell.order ≡ k → tile.cell.npix ≡ p → OthersStay k p ts (slice_set ts at new)
set_others [] at tile new k p e c ek ep j q n = absurd (no_tile tile e)
set_others (t ∷ ts) zero tile new k p e c ek ep j q n =
    let a : is_of j q tile ≡ false = not_of tile j q (λ h. n (sym h.0 ∙ ek, sym h.1 ∙ ep)) in
    let b : is_of j q new ≡ false = subst (λ d. (eqb d.order j && eqb d.npix q) ≡ false) (sym c) a in
    let d : is_of j q t ≡ false = subst (λ s. is_of j q s ≡ false) (sym (got t tile e)) a in
    skip new ts j q b ∙ sym (skip t ts j q d)
set_others (t ∷ ts) (suc at) tile new k p e c ek ep j q n = ap (λ ys. cond (is_of j q t) (sources t.rows) ys) (set_others ts at tile new k p e c ek ep j q n)

-- ---- a tile more

-- where the search for a number ends, and the tile there is not of the cell, none is
pub missing : (ts : List Tile) (k p : ℕ) → AreListed ts → ((tile : Tile) → slice_get ts (leading (λ t. ltb (number t) (uniq_number k p)) ts) ≡ Some tile → is_of k p tile ≡ false) →
    rows_at ts k p ≡ []
missing [] k p l h = refl
missing (t ∷ ts) k p l h = elim (either (ltb (number t) (uniq_number k p))) [
  | inl b ↦
      let less : number t < uniq_number k p = ltb-true (number t) (uniq_number k p) b in
      let i : ℕ = leading (λ t. ltb (number t) (uniq_number k p)) ts in
      let e : leading (λ t. ltb (number t) (uniq_number k p)) (t ∷ ts) ≡ suc i = ap (λ c. cond c (i + 1) 0) b ∙ (omega arith) in
      skip t ts k p (other_number t k p (λ m. absurd (omega (arith, less, m)))) ∙ missing ts k p l.2 (λ tile f. h tile (ap (slice_get (t ∷ ts)) e ∙ f))
  | inr b ↦
      let least : uniq_number k p ≤ number t = ltb-false (number t) (uniq_number k p) b in
      let e : leading (λ t. ltb (number t) (uniq_number k p)) (t ∷ ts) ≡ 0 = ap (λ c. cond c (leading (λ t. ltb (number t) (uniq_number k p)) ts + 1) 0) b in
      skip t ts k p (h t (ap (slice_get (t ∷ ts)) e)) ∙ none_of ts k p (all_map (λ s. number t < number s) (λ s. is_of k p s ≡ false) (λ s g. other_number s k p (λ m. absurd (omega (arith, least, g, m)))) ts l.1)
]

insert_all : (P : Tile → Type 0) (ts : List Tile) (at : ℕ) (new : Tile) → P new → All P ts → All P (insert ts at new)
insert_all P ts zero new p h = (p, h)
insert_all P [] (suc at) new p h = (p, tt)
insert_all P (t ∷ ts) (suc at) new p h = (h.0, insert_all P ts at new p h.1)

pub insert_listed : (ts : List Tile) (new : Tile) → AreListed ts → IsCell new.cell.order new.cell.npix →
    ((tile : Tile) → slice_get ts (leading (λ t. ltb (number t) (number new)) ts) ≡ Some tile → is_of new.cell.order new.cell.npix tile ≡ false) →
    AreListed (insert ts (leading (λ t. ltb (number t) (number new)) ts) new)
insert_listed [] new l i h = (i, tt, tt)
insert_listed (t ∷ ts) new l i h = elim (either (ltb (number t) (number new))) [
  | inl b ↦
      let less : number t < number new = ltb-true (number t) (number new) b in
      let at : ℕ = leading (λ t. ltb (number t) (number new)) ts in
      let e : leading (λ t. ltb (number t) (number new)) (t ∷ ts) ≡ suc at = ap (λ c. cond c (at + 1) 0) b ∙ (omega arith) in
      subst (λ m. AreListed (insert (t ∷ ts) m new)) (sym e)
      (l.0, insert_all (λ s. number t < number s) ts at new less l.1, insert_listed ts new l.2 i (λ tile f. h tile (ap (slice_get (t ∷ ts)) e ∙ f)))
  | inr b ↦
      let least : number new ≤ number t = ltb-false (number t) (number new) b in
      let e : leading (λ t. ltb (number t) (number new)) (t ∷ ts) ≡ 0 = ap (λ c. cond c (leading (λ t. ltb (number t) (number new)) ts + 1) 0) b in
      let other : is_of new.cell.order new.cell.npix t ≡ false = h t (ap (slice_get (t ∷ ts)) e) in
      let apart : number t ≢ number new = λ m. let same = uniq_number_injective t.cell.order t.cell.npix new.cell.order new.cell.npix l.0 i m in not_both (is_of new.cell.order new.cell.npix t) (is_of_from t new.cell.order new.cell.npix same.0 same.1) other in
      let less : number new < number t = omega (arith, least, apart) in
      subst (λ m. AreListed (insert (t ∷ ts) m new)) (sym e) (i, (less, all_map (λ s. number t < number s) (λ s. number new < number s) (λ s g. omega (arith, less, g)) ts l.1), l)
]

get_insert : (ts : List Tile) (at : ℕ) (new : Tile) → at ≤ length ts → slice_get (insert ts at new) at ≡ Some new
get_insert ts zero new h = refl
get_insert [] (suc at) new h = absurd (omega (arith, h))
get_insert (t ∷ ts) (suc at) new h = get_insert ts at new (omega (arith, h))

pub leading_within : {T : Type 0} (test : T → Bool) (xs : List T) → leading test xs ≤ length xs
leading_within test [] = omega arith
leading_within test (x ∷ xs) =
    let h : leading test xs ≤ length xs = leading_within test xs in
    elim (test x) as (λ b. cond b (leading test xs + 1) 0 ≤ length (x ∷ xs)) [ true ↦ omega (arith, h) | false ↦ omega arith ]

pub insert_here : (ts : List Tile) (new : Tile) → AreListed ts → IsCell new.cell.order new.cell.npix →
    ((tile : Tile) → slice_get ts (leading (λ t. ltb (number t) (number new)) ts) ≡ Some tile → is_of new.cell.order new.cell.npix tile ≡ false) →
    rows_at (insert ts (leading (λ t. ltb (number t) (number new)) ts) new) new.cell.order new.cell.npix ≡ sources new.rows
insert_here ts new l i h =
    let at : ℕ = leading (λ t. ltb (number t) (number new)) ts in
    rows_found (insert ts at new) at new new.cell.order new.cell.npix (insert_listed ts new l i h) (get_insert ts at new (leading_within (λ t. ltb (number t) (number new)) ts)) refl refl

pub insert_others : (ts : List Tile) (at : ℕ) (new : Tile) → OthersStay new.cell.order new.cell.npix ts (insert ts at new)
insert_others ts zero new j q n = skip new ts j q (not_of new j q (λ h. n (sym h.0, sym h.1)))
insert_others [] (suc at) new j q n = skip new [] j q (not_of new j q (λ h. n (sym h.0, sym h.1)))
insert_others (t ∷ ts) (suc at) new j q n = ap (λ ys. cond (is_of j q t) (sources t.rows) ys) (insert_others ts at new j q n)

-- ---- a tile less

remove_all : (P : Tile → Type 0) (ts : List Tile) (at : ℕ) → All P ts → All P (remove ts at)
remove_all P [] zero h = tt
remove_all P [] (suc at) h = tt
remove_all P (t ∷ ts) zero h = h.1
remove_all P (t ∷ ts) (suc at) h = (h.0, remove_all P ts at h.1)

pub remove_listed : (ts : List Tile) (at : ℕ) → AreListed ts → AreListed (remove ts at)
remove_listed [] zero l = tt
remove_listed [] (suc at) l = tt
remove_listed (t ∷ ts) zero l = l.2
remove_listed (t ∷ ts) (suc at) l = (l.0, remove_all (λ s. number t < number s) ts at l.1, remove_listed ts at l.2)

pub remove_here : (ts : List Tile) (at : ℕ) (tile : Tile) (k p : ℕ) → AreListed ts → slice_get ts at ≡ Some tile → tile.cell.order ≡ k → tile.cell.npix ≡ p →
    rows_at (remove ts at) k p ≡ []
remove_here [] at tile k p l e ek ep = absurd (no_tile tile e)
remove_here (t ∷ ts) zero tile k p l e ek ep =
    let n : number tile ≡ uniq_number k p = number_of tile k p ek ep in
    let f : number t ≡ number tile = ap number (got t tile e) in
    none_of ts k p (all_map (λ s. number t < number s) (λ s. is_of k p s ≡ false) (λ s g. other_number s k p (λ m. absurd (omega (arith, n, f, g, m)))) ts l.1)
remove_here (t ∷ ts) (suc at) tile k p l e ek ep =
    let h : number t < number tile = all_get (λ s. number t < number s) ts at tile l.1 e in
    let n : number tile ≡ uniq_number k p = number_of tile k p ek ep in
    skip t (remove ts at) k p (other_number t k p (λ m. absurd (omega (arith, h, n, m)))) ∙ remove_here ts at tile k p l.2 e ek ep

pub remove_others : (ts : List Tile) (at : ℕ) (tile : Tile) (k p : ℕ) → slice_get ts at ≡ Some tile → tile.cell.order ≡ k → tile.cell.npix ≡ p →
    OthersStay k p ts (remove ts at)
remove_others [] at tile k p e ek ep j q n = absurd (no_tile tile e)
remove_others (t ∷ ts) zero tile k p e ek ep j q n =
    let a : is_of j q tile ≡ false = not_of tile j q (λ h. n (sym h.0 ∙ ek, sym h.1 ∙ ep)) in
    sym (skip t ts j q (subst (λ s. is_of j q s ≡ false) (sym (got t tile e)) a))
remove_others (t ∷ ts) (suc at) tile k p e ek ep j q n = ap (λ ys. cond (is_of j q t) (sources t.rows) ys) (remove_others ts at tile k p e ek ep j q n)

-- the search goes by numbers that rise
pub numbers_rise : (ts : List Tile) (u : ℕ) → AreListed ts → HoldsAtFirst (λ t. ltb (number t) u) ts
numbers_rise [] u l = tt
numbers_rise (t ∷ ts) u l = (λ b. numbers_rise ts u l.2, λ f. let least : u ≤ number t = ltb-false (number t) u f in all_map (λ s. number t < number s) (λ s. ltb (number s) u ≡ false) (λ s g. elim (either (ltb (number s) u)) [ inl b ↦ (let less : number s < u = ltb-true (number s) u b in absurd (omega (arith, least, g, less))) | inr h ↦ h ]) ts l.1)

-- ---- the tile at a place

pub data TileAt (ts : List Tile) (at : ℕ) (cell : NestedCell) : Type 0 where
  tile_at : (tile : Tile) → slice_get ts at ≡ Some tile → tile.cell ≡ cell → TileAt ts at cell

pub the_tile : (ts : List Tile) (at : ℕ) (cell : NestedCell) → HasTile ts at cell → TileAt ts at cell
the_tile [] at cell h = absurd (grind (arith, h))
the_tile (t ∷ ts) zero cell h = tile_at t refl (ap (λ o. unwrap_or o cell) h)
the_tile (t ∷ ts) (suc at) cell h = elim (the_tile ts at cell h) [ tile_at tile e c ↦ tile_at tile e c ]

pub has_tile : (ts : List Tile) (at : ℕ) (tile : Tile) (cell : NestedCell) → slice_get ts at ≡ Some tile → tile.cell ≡ cell → HasTile ts at cell
has_tile [] at tile cell e c = absurd (no_tile tile e)
has_tile (t ∷ ts) zero tile cell e c = ap Some (ap (λ s. s.cell) (got t tile e) ∙ c)
has_tile (t ∷ ts) (suc at) tile cell e c = has_tile ts at tile cell e c

pub the_cell : (t : Tile) (cell : NestedCell) → is_of cell.order cell.npix t ≡ true → t.cell ≡ cell
the_cell t cell h = let p = is_of_parts t cell.order cell.npix h in ap₂ (λ k q. let c : NestedCell = record { order = k; npix = q } in c) p.0 p.1

set_cells : (ts : List Tile) (at : ℕ) (tile new : Tile) → slice_get ts at ≡ Some tile → new.cell ≡ tile.cell → HasSameCells ts (slice_set ts at new)
set_cells [] at tile new e c = absurd (no_tile tile e)
set_cells (t ∷ ts) zero tile new e c = ap (λ d. d ∷ map (λ t. t.cell) ts) (c ∙ sym (ap (λ s. s.cell) (got t tile e)))
set_cells (t ∷ ts) (suc at) tile new e c = ap (λ ds. t.cell ∷ ds) (set_cells ts at tile new e c)

set_again : (ts : List Tile) (at : ℕ) (a b : Tile) → slice_set (slice_set ts at a) at b ≡ slice_set ts at b
set_again [] at a b = refl
set_again (t ∷ ts) zero a b = refl
set_again (t ∷ ts) (suc at) a b = ap (λ ys. t ∷ ys) (set_again ts at a b)

index_is : (ts : List Tile) (at : ℕ) (tile d : Tile) → slice_get ts at ≡ Some tile → slice_index_or ts at d ≡ tile
index_is [] at tile d e = absurd (no_tile tile e)
index_is (t ∷ ts) zero tile d e = got t tile e
index_is (t ∷ ts) (suc at) tile d e = index_is ts at tile d e

within : (ts : List Tile) (at : ℕ) (tile : Tile) → slice_get ts at ≡ Some tile → at < length ts
within [] at tile e = absurd (no_tile tile e)
within (t ∷ ts) zero tile e = omega arith
within (t ∷ ts) (suc at) tile e = let h : at < length ts = within ts at tile e in omega (arith, h)

pub has_within : (ts : List Tile) (at : ℕ) (cell : NestedCell) → HasTile ts at cell → at < length ts
has_within ts at cell h = elim (the_tile ts at cell h) [ tile_at tile e c ↦ within ts at tile e ]

-- the tile taken out is that of the cell
pub data Taken (ts : List Tile) (at : ℕ) (cell : NestedCell) (taken : Tile) : Type 0 where
  taken_is : slice_get ts at ≡ Some taken → taken.cell ≡ cell → rows_at ts cell.order cell.npix ≡ sources taken.rows → Taken ts at cell taken

pub taken_tile : (ts : List Tile) (at : ℕ) (cell : NestedCell) (taken d : Tile) → AreListed ts → HasTile ts at cell → taken ≡ slice_index_or ts at d → Taken ts at cell taken
taken_tile ts at cell taken d l h e = elim (the_tile ts at cell h) [
  | tile_at tile f c ↦
      let same : taken ≡ tile = e ∙ index_is ts at tile d f in
      let g : slice_get ts at ≡ Some taken = f ∙ ap Some (sym same) in
      let c2 : taken.cell ≡ cell = ap (λ s. s.cell) same ∙ c in
      taken_is g c2 (rows_found ts at taken cell.order cell.npix l g (ap (λ x. x.order) c2) (ap (λ x. x.npix) c2))
]

pub change : (ts once new : List Tile) (at : ℕ) (cell : NestedCell) (blank taken back d : Tile) → AreListed ts → HasTile ts at cell → taken ≡ slice_index_or ts at d →
    once ≡ slice_set ts at blank → back.cell ≡ taken.cell → new ≡ slice_set once at back → HasNewRows cell (sources back.rows) ts new
change ts once new at cell blank taken back d l h e o c n = elim (taken_tile ts at cell taken d l h e) [
  | taken_is g c2 r ↦
      let all : new ≡ slice_set ts at back = n ∙ ap (λ ys. slice_set ys at back) o ∙ set_again ts at blank back in
      subst (λ ys. HasNewRows cell (sources back.rows) ts ys) (sym all) (record {
        rows_are = set_here ts at taken back cell.order cell.npix l g c (ap (λ x. x.order) c2) (ap (λ x. x.npix) c2);
        others = set_others ts at taken back cell.order cell.npix g c (ap (λ x. x.order) c2) (ap (λ x. x.npix) c2);
        listed = set_listed ts at taken back l g c;
        cells = set_cells ts at taken back g c;
      })
]

pub taken_rows : (ts : List Tile) (at : ℕ) (cell : NestedCell) (taken d : Tile) → AreListed ts → HasTile ts at cell → taken ≡ slice_index_or ts at d →
    rows_at ts cell.order cell.npix ≡ sources taken.rows
taken_rows ts at cell taken d l h e = elim (taken_tile ts at cell taken d l h e) [ taken_is g c r ↦ r ]

pub taken_length : (ts : List Tile) (at : ℕ) (cell : NestedCell) (taken d : Tile) → AreListed ts → HasTile ts at cell → taken ≡ slice_index_or ts at d →
    length (rows_at ts cell.order cell.npix) ≡ length taken.rows
taken_length ts at cell taken d l h e = ap length (taken_rows ts at cell taken d l h e) ∙ length_map arc_value taken.rows

set_length : (ts : List Tile) (at : ℕ) (new : Tile) → length (slice_set ts at new) ≡ length ts
set_length [] at new = refl
set_length (t ∷ ts) zero new = omega arith
set_length (t ∷ ts) (suc at) new = let e : length (slice_set ts at new) ≡ length ts = set_length ts at new in omega (arith, e)

pub still_within : (ts once : List Tile) (at : ℕ) (cell : NestedCell) (blank : Tile) → HasTile ts at cell → once ≡ slice_set ts at blank → at < length once
still_within ts once at cell blank h o =
    let a : length once ≡ length ts = ap length o ∙ set_length ts at blank in
    let b : at < length ts = has_within ts at cell h in omega (arith, a, b)

pub gap_from : (ts : List Tile) (at u : ℕ) (cell : NestedCell) → u ≡ uniq_number cell.order cell.npix → AreListed ts →
    (HoldsAtFirst (λ t. ltb (number t) u) ts → at ≡ leading (λ t. ltb (number t) u) ts) →
    ((tile : Tile) → slice_get ts at ≡ Some tile → is_of cell.order cell.npix tile ≡ false) → IsGap ts at cell
gap_from ts at u cell e l h o = record {
  place = h (numbers_rise ts u l) ∙ ap (λ (v : ℕ). leading (λ t. ltb (number t) v) ts) e;
  other = o;
}

pub found_rows : (ts : List Tile) (at : ℕ) (tile : Tile) (cell : NestedCell) → AreListed ts → HasTile ts at cell → slice_get ts at ≡ Some tile →
    rows_at ts cell.order cell.npix ≡ sources tile.rows
found_rows ts at tile cell l h e = elim (the_tile ts at cell h) [
  | tile_at t f c ↦
      let same : t.cell ≡ tile.cell = ap (λ s. s.cell) (got t tile (sym f ∙ e)) in
      let d : tile.cell ≡ cell = sym same ∙ c in
      rows_found ts at tile cell.order cell.npix l e (ap (λ x. x.order) d) (ap (λ x. x.npix) d)
]

pub never_none : (ts : List Tile) (at : ℕ) (cell : NestedCell) → HasTile ts at cell → None ≡ slice_get ts at → ⊥
never_none ts at cell h e = elim (the_tile ts at cell h) [ tile_at t f c ↦ no_tile t (e ∙ f) ]

pub gap_rows : (ts : List Tile) (at : ℕ) (cell : NestedCell) → AreListed ts → IsGap ts at cell → rows_at ts cell.order cell.npix ≡ []
gap_rows ts at cell l g = missing ts cell.order cell.npix l (λ tile e. g.other tile (ap (slice_get ts) g.place ∙ e))
