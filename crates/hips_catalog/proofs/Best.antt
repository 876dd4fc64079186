-- The best of the first rows of tiles.
use Rattle.std.proofs.Common.{◌≡◌, true, false, List, [], ◌∷◌, refl, sym, ap, ◌∙◌, subst, arith, inl, inr}
use Rattle.std.specs.Prelude.{slice_get, Option, Some, None, IfSome, IfNone, option_copied, unwrap_or, ◌<◌, length, Bool}
use Rattle.std.specs.Arc.{arc_value}
use Rattle.std.specs.Borrow.{Bor}
use Rattle.std.specs.List.{AllByRecursion as All}
use Rattle.healpix_nested.specs.Cells.{NestedCell}
use Rattle.hips_catalog.specs.Rows.{Source, is_better}
use Rattle.hips_catalog.specs.Ends.{begins_better}
use Rattle.hips_catalog.specs.Tiles.{IsBest, IsBestTile, sources, rows_at, first_at}
use Rattle.hips_catalog.specs.declared.tile.Tile.{Tile}
use Rattle.hips_catalog.proofs.Order.{either, not_both, not_itself, better_trans}
use Rattle.hips_catalog.proofs.Shared.{length_map}

none_is_some : (z : Source) → None ≡ Some z → ⊥
none_is_some z e = absurd (grind (arith, e))

got_source : (s z : Source) → Some s ≡ Some z → s ≡ z
got_source s z e = ap (λ o. unwrap_or o z) e

no_better : (o : Option Source) (z : Source) → o ≡ None → IfSome o (λ s. is_better s z ≡ false)
no_better o z e = subst (λ p. IfSome p (λ s. is_better s z ≡ false)) (sym e) tt

pub none_there : (ts : List Tile) (best : Option NestedCell) (child : NestedCell) (cells : List NestedCell) → first_at ts child ≡ None → IsBest ts best cells → IsBest ts best (child ∷ cells)
none_there ts None child cells e b = record { is = (e, b.is) }
none_there ts (Some c) child cells e b = record { is = (inr b.is.0, b.is.1, b.is.2, (no_better (first_at ts child) b.is.1 e, b.is.3)) }

all_none : (ts : List Tile) (cells : List NestedCell) (z : Source) → All (λ c. first_at ts c ≡ None) cells → All (λ c. IfSome (first_at ts c) (λ s. is_better s z ≡ false)) cells
all_none ts [] z h = tt
all_none ts (c ∷ cs) z h = (no_better (first_at ts c) z h.0, all_none ts cs z h.1)

own : (ts : List Tile) (child : NestedCell) (s : Source) → first_at ts child ≡ Some s → IfSome (first_at ts child) (λ r. is_better r s ≡ false)
own ts child s e = subst (λ p. IfSome p (λ r. is_better r s ≡ false)) (sym e) (not_itself s)

pub first_there : (ts : List Tile) (child : NestedCell) (s : Source) (cells : List NestedCell) → first_at ts child ≡ Some s → IsBest ts None cells → IsBest ts (Some child) (child ∷ cells)
first_there ts child s cells e b = record { is = (inl refl, s, e, (own ts child s e, all_none ts cells s b.is)) }

still_none_better : (o : Option Source) (s z : Source) → is_better s z ≡ true → IfSome o (λ r. is_better r z ≡ false) → IfSome o (λ r. is_better r s ≡ false)
still_none_better None s z t h = tt
still_none_better (Some r) s z t h = elim (either (is_better r s)) [
  | inl u ↦ absurd (not_both (is_better r z) (better_trans r s z u t) h)
  | inr f ↦ f
]

all_still : (ts : List Tile) (cells : List NestedCell) (s z : Source) → is_better s z ≡ true → All (λ c. IfSome (first_at ts c) (λ r. is_better r z ≡ false)) cells →
    All (λ c. IfSome (first_at ts c) (λ r. is_better r s ≡ false)) cells
all_still ts [] s z t h = tt
all_still ts (c ∷ cs) s z t h = (still_none_better (first_at ts c) s z t h.0, all_still ts cs s z t h.1)

pub better_there : (ts : List Tile) (other child : NestedCell) (s z : Source) (cells : List NestedCell) → first_at ts child ≡ Some s → first_at ts other ≡ Some z →
    is_better s z ≡ true → IsBest ts (Some other) cells → IsBest ts (Some child) (child ∷ cells)
better_there ts other child s z cells e f t b =
    let same : b.is.1 ≡ z = got_source b.is.1 z (sym b.is.2 ∙ f) in
    let all = subst (λ w. All (λ c. IfSome (first_at ts c) (λ r. is_better r w ≡ false)) cells) same b.is.3 in
    record { is = (inl refl, s, e, (own ts child s e, all_still ts cells s z t all)) }

pub worse_there : (ts : List Tile) (other child : NestedCell) (s z : Source) (cells : List NestedCell) → first_at ts child ≡ Some s → first_at ts other ≡ Some z →
    is_better s z ≡ false → IsBest ts (Some other) cells → IsBest ts (Some other) (child ∷ cells)
worse_there ts other child s z cells e f t b =
    let same : b.is.1 ≡ z = got_source b.is.1 z (sym b.is.2 ∙ f) in
    let here : IfSome (first_at ts child) (λ r. is_better r b.is.1 ≡ false) = subst (λ p. IfSome p (λ r. is_better r b.is.1 ≡ false)) (sym e) (subst (λ w. is_better s w ≡ false) (sym same) t) in
    record { is = (inr b.is.0, b.is.1, b.is.2, (here, b.is.3)) }

pub has_first : (ts : List Tile) (other : NestedCell) (cells : List NestedCell) → IsBest ts (Some other) cells → None ≡ first_at ts other → ⊥
has_first ts other cells b e = none_is_some b.is.1 (e ∙ b.is.2)

-- ---- the best of tiles

pub tile_none : (ts : List Tile) (best : Option Tile) (child : NestedCell) (cells : List NestedCell) → rows_at ts child.order child.npix ≡ [] → IsBestTile ts best cells → IsBestTile ts best (child ∷ cells)
tile_none ts best child cells e b = record { cell = none_there ts _ child cells (ap (λ ss. slice_get ss 0) e) b.cell; rows = b.rows }

a_first : (ss : List Source) → 0 < length ss → (s : Source) × (slice_get ss 0 ≡ Some s)
a_first [] h = absurd (omega (arith, h))
a_first (s ∷ ss) h = (s, refl)

pub tile_first : (ts : List Tile) (child : Tile) (cells : List NestedCell) → rows_at ts child.cell.order child.cell.npix ≡ sources child.rows → 0 < length (sources child.rows) →
    IsBestTile ts None cells → IsBestTile ts (Some child) (child.cell ∷ cells)
tile_first ts child cells r h b =
    let f = a_first (sources child.rows) h in
    record { cell = first_there ts child.cell f.0 cells (ap (λ ss. slice_get ss 0) r ∙ f.1) b.cell; rows = r }

better_first : (ss : List Source) (z : Source) → begins_better ss z ≡ true → (s : Source) × (slice_get ss 0 ≡ Some s) × (is_better s z ≡ true)
better_first [] z h = absurd (grind (arith, h))
better_first (s ∷ ss) z h = (s, refl, h)

worse_first : (ss : List Source) (z : Source) → begins_better ss z ≡ false → IfSome (slice_get ss 0) (λ s. is_better s z ≡ false)
worse_first [] z h = tt
worse_first (s ∷ ss) z h = h

pub tile_better : (ts : List Tile) (other child : Tile) (cells : List NestedCell) (better : Bool) → rows_at ts child.cell.order child.cell.npix ≡ sources child.rows →
    ((z : Source) → slice_get (sources other.rows) 0 ≡ Some z → better ≡ begins_better (sources child.rows) z) → better ≡ true →
    IsBestTile ts (Some other) cells → IsBestTile ts (Some child) (child.cell ∷ cells)
tile_better ts other child cells better r is t b =
    let z : Source = b.cell.is.1 in
    let f = better_first (sources child.rows) z (sym (is z (ap (λ ss. slice_get ss 0) (sym b.rows) ∙ b.cell.is.2)) ∙ t) in
    record { cell = better_there ts other.cell child.cell f.0 z cells (ap (λ ss. slice_get ss 0) r ∙ f.1) b.cell.is.2 f.2 b.cell; rows = r }

pub tile_worse : (ts : List Tile) (other child : Tile) (cells : List NestedCell) (better : Bool) → rows_at ts child.cell.order child.cell.npix ≡ sources child.rows →
    ((z : Source) → slice_get (sources other.rows) 0 ≡ Some z → better ≡ begins_better (sources child.rows) z) → better ≡ false →
    IsBestTile ts (Some other) cells → IsBestTile ts (Some other) (child.cell ∷ cells)
tile_worse ts other child cells better r is t b =
    let z : Source = b.cell.is.1 in
    let f : IfSome (slice_get (sources child.rows) 0) (λ s. is_better s z ≡ false) = worse_first (sources child.rows) z (sym (is z (ap (λ ss. slice_get ss 0) (sym b.rows) ∙ b.cell.is.2)) ∙ t) in
    let here : IfSome (first_at ts child.cell) (λ s. is_better s z ≡ false) = subst (λ ss. IfSome (slice_get ss 0) (λ s. is_better s z ≡ false)) (sym r) f in
    record { cell = record { is = (inr b.cell.is.0, z, b.cell.is.2, (here, b.cell.is.3)) }; rows = b.rows }

-- the tile if it has rows
pub tile_with_rows : (ts : List Tile) (child : Tile) (kept : Option (Bor Tile)) (cells : List NestedCell) → rows_at ts child.cell.order child.cell.npix ≡ sources child.rows →
    IfSome kept (λ k. (k.now ≡ child) × (0 < length child.rows)) → IfNone kept (child.rows ≡ []) → IsBestTile ts None cells → IsBestTile ts (option_copied kept) (child.cell ∷ cells)
tile_with_rows ts child None cells r h n b = tile_none ts None child.cell cells (r ∙ ap sources n) b
tile_with_rows ts child (Some k) cells r h n b =
    let l : length (sources child.rows) ≡ length child.rows = length_map arc_value child.rows in
    let m : 0 < length child.rows = h.1 in
    subst (λ t. IsBestTile ts (Some t) (child.cell ∷ cells)) (sym h.0) (tile_first ts child cells r (omega (arith, l, m)) b)
