-- A catalogue with one row more, or one less, as it is kept.
use Rattle.std.proofs.Common.{◌≡◌, ◌≢◌, ℕ, zero, suc, ◌+◌, ◌/◌, ◌≤◌, ◌<◌, true, false, cond, ltb, List, [], length, take, drop, refl, sym, ap, ◌∙◌, subst, arith}
use Rattle.std.specs.Prelude.{slice_index_or}
use Rattle.std.specs.Arc.{arc_value}
use Rattle.std.specs.declared.sync.Arc.{Arc}
use Rattle.std.specs.declared.alloc.Global.{Global}
use Rattle.std.specs.List.{filter, insert, remove}
use Rattle.healpix_nested.specs.Cells.{IsCell}
use Rattle.hips_catalog.specs.Rows.{Source, in_order}
use Rattle.hips_catalog.specs.Catalogue.{IsCatalogue, has_id, with_source, without_id}
use Rattle.hips_catalog.specs.Kept.{kept_content, IsKeptCatalogue, StandsAt, WouldStandAt}
use Rattle.hips_catalog.specs.Tiles.{sources, AreListed, NoneIsEmpty}
use Rattle.hips_catalog.specs.Parts.{AreTilesOf, Differ}
use Rattle.hips_catalog.specs.Held.{is_under, rest_of, held}
use Rattle.hips_catalog.specs.declared.tile.Tile.{Tile}
use Rattle.hips_catalog.proofs.OneMore.{OneMore, removed_more, more_all, more_rest, more_length}
use Rattle.hips_catalog.proofs.Shared.{insert_map, remove_map, index_map, length_map}
use Rattle.hips_catalog.proofs.Ids.{with_more, with_ascends, less_ascends, differ}

-- ---- shared rows

-- the rows with one that was put in
pub rows_with : (id : List ℕ) (ids now : List (Arc Source Global)) (at : ℕ) (row : Arc Source Global) (x : Source) → WouldStandAt id (sources ids) at → x.id ≡ id → arc_value row ≡ x →
    now ≡ insert ids at row → sources now ≡ with_source x (sources ids)
rows_with id ids now at row x w i r e = ap sources e ∙ insert_map arc_value ids at row ∙ ap (insert (sources ids) at) r ∙ w.with_one x i

-- the rows without one that was taken out
pub rows_without : (id : List ℕ) (ids now : List (Arc Source Global)) (at : ℕ) → StandsAt id (sources ids) at → now ≡ remove ids at → sources now ≡ without_id id (sources ids)
rows_without id ids now at s e = ap sources e ∙ remove_map arc_value ids at ∙ s.without

pub one_taken : (ids now : List (Arc Source Global)) (at : ℕ) (row : Arc Source Global) (x : Source) → at < length (sources ids) → x ≡ arc_value row → row ≡ slice_index_or ids at row → now ≡ remove ids at →
    OneMore x (sources now) (sources ids)
one_taken ids now at row x h ex er e =
    let is : slice_index_or (sources ids) at (arc_value row) ≡ x = index_map arc_value ids at row ∙ ap arc_value (sym er) ∙ sym ex in
    let few : sources now ≡ remove (sources ids) at = ap sources e ∙ remove_map arc_value ids at in
    subst (λ ys. OneMore x ys (sources ids)) (sym few) (subst (λ s. OneMore s (remove (sources ids) at) (sources ids)) is (removed_more (sources ids) at (arc_value row) h))

-- ---- one row more

pub roomy : (ids : List (Arc Source Global)) (count : ℕ) → count ≡ length ids → count ≢ 1000000 → length (sources ids) ≢ 1000000
roomy ids count e n f = n (e ∙ sym (length_map arc_value ids) ∙ f)

pub catalogue_with : (top n : ℕ) (ss : List Source) (x : Source) → IsCatalogue (kept_content top n ss) → IsCell top x.npix → has_id x.id ss ≡ false → length ss ≢ 1000000 → IsCatalogue (kept_content top n (with_source x ss))
catalogue_with top n ss x c i a r =
    let l : length (with_source x ss) ≡ length ss + 1 = more_length (with_more x ss) in
    let few : length ss ≤ 1000000 = c.few in
    record {
      top = c.top;
      least = c.least;
      most = c.most;
      by_id = with_ascends x ss c.by_id a;
      of_cells = more_all (λ s. IsCell top s.npix) (with_more x ss) i c.of_cells;
      few = omega (arith, l, few, r);
    }

pub differ_with : (top n : ℕ) (ss : List Source) (x : Source) → IsCatalogue (kept_content top n ss) → IsCell top x.npix → has_id x.id ss ≡ false → length ss ≢ 1000000 → Differ top x (in_order ss) (in_order (with_source x ss))
differ_with top n ss x c i a r =
    let w = catalogue_with top n ss x c i a r in
    differ top x ss (with_source x ss) (with_more x ss) w.by_id w.of_cells w.few

pub kept_with : (top n : ℕ) (ss now : List Source) (old new : List Tile) (x y : Source) → now ≡ with_source x ss → y ≡ x → IsKeptCatalogue (kept_content top n ss) old → IsCell top x.npix → has_id x.id ss ≡ false → length ss ≢ 1000000 →
    AreListed new → (NoneIsEmpty old → NoneIsEmpty new) → ((few many : List Source) → AreTilesOf top n few old → Differ top y few many → AreTilesOf top n many new) → IsKeptCatalogue (kept_content top n now) new
kept_with top n ss now old new x y e ey k i a r l f t =
    subst (λ rows. IsKeptCatalogue (kept_content top n rows) new) (sym e) (record {
      is = catalogue_with top n ss x k.is i a r;
      listed = l;
      full = f k.full;
      tiles_are = t (in_order ss) (in_order (with_source x ss)) k.tiles_are (subst (λ z. Differ top z (in_order ss) (in_order (with_source x ss))) (sym ey) (differ_with top n ss x k.is i a r));
    })

-- ---- one row less

pub differ_less : (top n : ℕ) (ss now : List Source) (x : Source) → IsCatalogue (kept_content top n ss) → OneMore x now ss → Differ top x (in_order now) (in_order ss)
differ_less top n ss now x c m = differ top x now ss m c.by_id c.of_cells c.few

pub kept_less : (top n : ℕ) (ss now : List Source) (old new : List Tile) (x : Source) → OneMore x now ss → IsKeptCatalogue (kept_content top n ss) old →
    AreListed new → (NoneIsEmpty old → NoneIsEmpty new) → ((few many : List Source) → AreTilesOf top n many old → Differ top x few many → AreTilesOf top n few new) → IsKeptCatalogue (kept_content top n now) new
kept_less top n ss now old new x m k l f t =
    let e : length ss ≡ length now + 1 = more_length m in
    let few : length ss ≤ 1000000 = k.is.few in
    record {
      is = record {
        top = k.is.top;
        least = k.is.least;
        most = k.is.most;
        by_id = less_ascends m k.is.by_id;
        of_cells = more_rest (λ s. IsCell top s.npix) m k.is.of_cells;
        few = omega (arith, e, few);
      };
      listed = l;
      full = f k.full;
      tiles_are = t (in_order now) (in_order ss) k.tiles_are (differ_less top n ss now x k.is m);
    }

-- ---- no rows

abbrev no_sources : List Source
no_sources = []

none_left : (n : ℕ) → drop n no_sources ≡ no_sources
none_left zero = refl
none_left (suc n) = refl

none_taken : (n : ℕ) → take n no_sources ≡ no_sources
none_taken zero = refl
none_taken (suc n) = refl

no_rest : (top n k p : ℕ) → rest_of top n [] k p ≡ []
no_rest top n zero p = refl
no_rest top n (suc k) p = ap (λ ss. filter (is_under top (suc k) p) (drop n ss)) (no_rest top n k (p / 4)) ∙ ap (filter (is_under top (suc k) p)) (none_left n)

none_held : (top n k p : ℕ) → held top n [] k p ≡ []
none_held top n k p =
    ap (λ ss. cond (ltb k top) (take n ss) ss) (no_rest top n k p) ∙ ap (λ ss. cond (ltb k top) ss []) (none_taken n)
    ∙ (elim (ltb k top) as (λ b. cond b no_sources no_sources ≡ no_sources) [ true ↦ refl | false ↦ refl ])

kept_empty : (top n : ℕ) → top ≤ 11 → 1 ≤ n → n ≤ 4096 → IsKeptCatalogue (kept_content top n []) []
kept_empty top n h l m = record {
  is = record { top = h; least = l; most = m; by_id = tt; of_cells = tt; few = omega arith };
  listed = tt;
  full = tt;
  tiles_are = λ k p. sym (none_held top n k p);
}

pub kept_new : (top n : ℕ) (ids : List (Arc Source Global)) (tiles : List Tile) → ids ≡ [] → tiles ≡ [] → top ≤ 11 → 1 ≤ n → n ≤ 4096 → IsKeptCatalogue (kept_content top n (sources ids)) tiles
kept_new top n ids tiles ei et h l m =
    subst (λ rows. IsKeptCatalogue (kept_content top n rows) tiles) (sym (ap sources ei)) (subst (λ ts. IsKeptCatalogue (kept_content top n []) ts) (sym et) (kept_empty top n h l m))
