-- The tiles above a tile are full of better rows.
use Rattle.std.proofs.Common.{◌≡◌, ℕ, zero, suc, ◌-◌, ◌/◌, ◌^◌, ◌≤◌, ◌<◌, true, List, [], ◌∷◌, length, take, drop, refl, sym, ap, ◌∙◌, subst, arith, inl}
use Rattle.healpix_nested.specs.Cells.{NestedCell, IsCell, lies_under}
use Rattle.healpix_nested.specs.CellLaws.{under_trans, ancestor_is_cell}
use Rattle.hips_catalog.specs.Rows.{Source, in_order}
use Rattle.hips_catalog.specs.Held.{is_under, rest_of, held}
use Rattle.hips_catalog.specs.Catalogue.{Catalogue, IsCatalogue, tile_rows, has_some, existing_tiles}
use Rattle.hips_catalog.specs.Tiles.{IsOneOf}
use Rattle.hips_catalog.specs.Laws.{IsAmong, BetterRowsStandAbove}
use Rattle.hips_catalog.proofs.Order.{in_order_ordered}
use Rattle.hips_catalog.proofs.Descent.{under_parts, held_above, rest_ordered}
use Rattle.hips_catalog.proofs.Ids.{distinct}
use Rattle.hips_catalog.proofs.Existing.{one_all, existing_hold, existing_has, held_under, length_some}
use Rattle.hips_catalog.proofs.OneTile.{path, among_all, better_first, was_left, among_held, tile_all}

some_row : (ss : List Source) → has_some ss ≡ true → (s : Source) × IsAmong s ss
some_row [] h = absurd (grind (arith, h))
some_row (s ∷ ss) h = (s, inl refl)

-- where a source is left after the first n, there are n
full : (s : Source) (n : ℕ) (ss : List Source) → IsAmong s (drop n ss) → length (take n ss) ≡ n
full s zero ss m = omega arith
full s (suc n) [] m = absurd m
full s (suc n) (r ∷ rs) m = let e : length (take n rs) ≡ n = full s n rs m in omega (arith, e)

-- a row of a tile lies under its cell, and under the cells above that
row_under : (c : Catalogue) (k p : ℕ) (s : Source) → IsAmong s (tile_rows c k p) → is_under c.top k p s ≡ true
row_under c k p s m = among_all (λ r. is_under c.top k p r ≡ true) (tile_rows c k p) s m (held_under c.top c.per_tile (in_order c.rows) k p)

row_above : (c : Catalogue) (j q k p : ℕ) (s : Source) → lies_under k p j q ≡ true → IsAmong s (tile_rows c k p) → (j ≤ c.top) × (path c.top s j ≡ q)
row_above c j q k p s u m = under_parts c.top s.npix j q (under_trans c.top s.npix k p j q (row_under c k p s m) u)

-- the tile above left it over
left_over : (c : Catalogue) (j q k p : ℕ) (s : Source) → j < k → lies_under k p j q ≡ true → IsAmong s (tile_rows c k p) → IsAmong s (drop c.per_tile (rest_of c.top c.per_tile (in_order c.rows) j q))
left_over c j q k p s l u m =
    let n = c.per_tile in
    let ss = in_order c.rows in
    let here = under_parts c.top s.npix k p (row_under c k p s m) in
    let rest : IsAmong s (rest_of c.top n ss k (path c.top s k)) = subst (λ (r : ℕ). IsAmong s (rest_of c.top n ss k r)) (sym here.1) (among_held c.top n ss s k p m) in
    subst (λ (r : ℕ). IsAmong s (drop n (rest_of c.top n ss j r))) (row_above c j q k p s u m).1
    (was_left c.top n ss s (k - suc j) j k (omega (arith, l)) here.0 rest)

upper_cell : (c : Catalogue) (j q k p : ℕ) (s : Source) → IsCatalogue c → lies_under k p j q ≡ true → IsAmong s (tile_rows c k p) → IsCell j q
upper_cell c j q k p s i u m =
    let above = row_above c j q k p s u m in
    subst (λ (r : ℕ). IsCell j r) above.1 (ancestor_is_cell c.top s.npix j (tile_all (λ r. IsCell c.top r.npix) c k p s i.of_cells m) above.0)

pub better_above : BetterRowsStandAbove
better_above c i upper lower e l u =
    let n = c.per_tile in
    let ss = in_order c.rows in
    let rest = rest_of c.top n ss upper.order upper.npix in
    let row = some_row (tile_rows c lower.order lower.npix) (one_all (λ d. has_some (tile_rows c d.order d.npix) ≡ true) (existing_tiles c) lower e (existing_hold c)) in
    let deep : lower.order ≤ c.top = (under_parts c.top row.0.npix lower.order lower.npix (row_under c lower.order lower.npix row.0 row.1)).0 in
    let first : tile_rows c upper.order upper.npix ≡ take n rest = held_above c.top n ss upper.order upper.npix (omega (arith, l, deep)) in
    let all : length (tile_rows c upper.order upper.npix) ≡ n = ap length first ∙ full row.0 n rest (left_over c upper.order upper.npix lower.order lower.npix row.0 l u row.1) in
    let least : 1 ≤ n = i.least in
    record {
      exists = existing_has c upper.order upper.npix (omega (arith, l, deep)) (upper_cell c upper.order upper.npix lower.order lower.npix row.0 i u row.1).in_order
          (length_some (tile_rows c upper.order upper.npix) (omega (arith, all, least)));
      full = all;
      better = λ r s a b. better_first r s n rest (rest_ordered c.top n ss (in_order_ordered c.rows (distinct c.rows i.by_id)) upper.order upper.npix)
          (subst (λ rs. IsAmong r rs) first a) (left_over c upper.order upper.npix lower.order lower.npix s l u b);
    }
