-- The tile above the tiles of a cell's four children has the cell's pixels.
use Rattle.std.proofs.Common.{◌≡◌, ℕ, zero, suc, ◌+◌, ◌*◌, ◌/◌, ◌%◌, ◌^◌, ◌<◌, ◌≤◌, List, length, Option, Some, None, sym, ap, ap₂, ◌∙◌, arith, get_or, inl, inr}
use Rattle.std.specs.Prelude.{ℤ, All}
use Rattle.std.proofs.lemmas.Bool.{cases_lt}
use Rattle.std.proofs.lemmas.List.{get_or_past}
use Rattle.std.proofs.lemmas.List.FromFn.{get_or-map-range_with_len}
use Rattle.std.proofs.lemmas.Nat.{mod_below, div_below, div-add-mod'}
use Rattle.healpix_nested.specs.CellLaws.{four_pow_pos}
use Rattle.healpix_nested.specs.Place.{stored_z, stored_at_z}
use Rattle.healpix_nested.specs.PlaceLaws.{stored_z_below, stored_at_z_below, stored_z-stored_at_z}
use Rattle.parent_rule.specs.Depth.{PixelDepth}
use Rattle.pyramid_model.specs.Shape.{PyramidShape, LeafMap}
use Rattle.pyramid_model.specs.Value.{value}
use Rattle.pyramid_model.specs.Tile.{pixel_at, pixels}
use Rattle.tile_pixels.specs.Merge.{FourTiles, child, number_of, number_above, merged, Shows, ShowsChildren}
use Rattle.tile_pixels.specs.QuadrantLaws.{map_shift, same_four}
use Rattle.pyramid_model.specs.ValueLaws.{value_step}
use Rattle.pyramid_model.specs.TileLaws.{pixels_blank}

-- each place of a list that has one number throughout has that number
get_or_of_all : (xs : List ℤ) (i : ℕ) (d : ℤ) → All (λ v. v ≡ d) xs → get_or xs i d ≡ d
get_or_of_all xs i d all = elim (cases_lt i (length xs)) [
  | inl below ↦ all i d below
  | inr above ↦ get_or_past xs i d above
]

-- the value of a cell within a tile is the tile's number at its place
value_in_tile : (shape : PyramidShape) (leaves : LeafMap) (k p z : ℕ) → shape.n ≤ 9 → z < 4 ^ shape.n → get_or (pixels shape leaves k p) (stored_at_z shape.n z) shape.depth.blank ≡ value shape leaves (k + shape.n) (p * 4 ^ shape.n + z)
unfolding pixels
value_in_tile shape leaves k p z small below =
    get_or-map-range_with_len (pixel_at shape leaves k p) 0 (4 ^ shape.n) (stored_at_z shape.n z) (stored_at_z shape.n z) shape.depth.blank (stored_at_z_below shape.n z below) (omega arith)
    ∙ ap (λ y. value shape leaves (k + shape.n) (p * 4 ^ shape.n + y)) (stored_z-stored_at_z shape.n z small below)

-- a tile that shows a cell's pixels, or its absence, has the values of the cells under it
shown : (shape : PyramidShape) (leaves : LeafMap) (k p z : ℕ) (numbers : Option (List ℤ)) → shape.n ≤ 9 → k ≤ shape.top → z < 4 ^ shape.n → Shows shape leaves k p numbers
    → number_of shape.depth shape.n numbers z ≡ value shape leaves (k + shape.n) (p * 4 ^ shape.n + z)
shown shape leaves k p z None small h below shows =
    sym (get_or_of_all (pixels shape leaves k p) (stored_at_z shape.n z) shape.depth.blank (pixels_blank shape leaves k p h shows))
    ∙ value_in_tile shape leaves k p z small below
shown shape leaves k p z (Some numbers) small h below shows =
    ap (λ ns. get_or ns (stored_at_z shape.n z) shape.depth.blank) shows.1
    ∙ value_in_tile shape leaves k p z small below

-- one of the four children
shown_child : (shape : PyramidShape) (leaves : LeafMap) (k p i : ℕ) (tiles : FourTiles) → ShowsChildren shape leaves k p tiles → i < 4 → Shows shape leaves (k + 1) (4 * p + i) (child tiles i)
shown_child shape leaves k p zero tiles shows h = let e : 4 * p + 0 ≡ 4 * p = omega arith in rw e shows.first
shown_child shape leaves k p (suc zero) tiles shows h = shows.second
shown_child shape leaves k p (suc (suc zero)) tiles shows h = shows.third
shown_child shape leaves k p (suc (suc (suc zero))) tiles shows h = shows.fourth
shown_child shape leaves k p (suc (suc (suc (suc i)))) tiles shows h = absurd (omega arith)

-- cell y of the four tiles, counted through them, is cell y of the cells under p
cell_of_four : (p y w q : ℕ) → q * w + y % w ≡ y → (4 * p + q) * w + y % w ≡ 4 * (p * w) + y
cell_of_four p y w q e = omega (arith, e)

shown_cell : (shape : PyramidShape) (leaves : LeafMap) (k p y c : ℕ) (tiles : FourTiles) → shape.n ≤ 9 → k < shape.top → y < 4 * 4 ^ shape.n → ShowsChildren shape leaves k p tiles
    → c ≡ 4 * (p * 4 ^ shape.n) + y
    → number_of shape.depth shape.n (child tiles (y / 4 ^ shape.n)) (y % 4 ^ shape.n) ≡ value shape leaves (k + shape.n + 1) c
shown_cell shape leaves k p y c tiles small h below shows e =
    let some : 0 < 4 ^ shape.n = four_pow_pos shape.n in
    let one : y / 4 ^ shape.n < 4 = div_below y (4 ^ shape.n) 4 some below in
    let rest : y % 4 ^ shape.n < 4 ^ shape.n = mod_below y (4 ^ shape.n) some in
    let order : k + 1 + shape.n ≡ k + shape.n + 1 = omega arith in
    shown shape leaves (k + 1) (4 * p + y / 4 ^ shape.n) (y % 4 ^ shape.n) (child tiles (y / 4 ^ shape.n)) small (omega arith) rest (shown_child shape leaves k p (y / 4 ^ shape.n) tiles shows one)
    ∙ ap₂ (λ j x. value shape leaves j x) order (cell_of_four p y (4 ^ shape.n) (y / 4 ^ shape.n) (div-add-mod' y (4 ^ shape.n)) ∙ sym e)

-- a cell of the tile above
above_cell : (shape : PyramidShape) (leaves : LeafMap) (k p z : ℕ) (tiles : FourTiles) → shape.n ≤ 9 → k < shape.top → z < 4 ^ shape.n → ShowsChildren shape leaves k p tiles
    → number_above shape.depth shape.n tiles z ≡ value shape leaves (k + shape.n) (p * 4 ^ shape.n + z)
above_cell shape leaves k p z tiles small h below shows =
    let w : ℕ = 4 ^ shape.n in
    same_four shape.depth.combine shape.depth.blank _ _ _ _ _ _ _ _
    (shown_cell shape leaves k p (4 * z + 0) (4 * (p * 4 ^ shape.n + z)) tiles small h (omega arith) shows (omega arith))
    (shown_cell shape leaves k p (4 * z + 1) (4 * (p * 4 ^ shape.n + z) + 1) tiles small h (omega arith) shows (omega arith))
    (shown_cell shape leaves k p (4 * z + 2) (4 * (p * 4 ^ shape.n + z) + 2) tiles small h (omega arith) shows (omega arith))
    (shown_cell shape leaves k p (4 * z + 3) (4 * (p * 4 ^ shape.n + z) + 3) tiles small h (omega arith) shows (omega arith))
    ∙ sym (value_step shape leaves (k + shape.n) (p * 4 ^ shape.n + z) (omega arith))

pub merged-pixels : (shape : PyramidShape) (leaves : LeafMap) (k p : ℕ) (tiles : FourTiles) (depth : PixelDepth) (n : ℕ) → n ≤ 9 → shape.depth ≡ depth → shape.n ≡ n → k < shape.top → ShowsChildren shape leaves k p tiles
    → merged depth n tiles ≡ pixels shape leaves k p
unfolding merged pixels
merged-pixels shape leaves k p tiles depth n small ed en h shows =
    rw (sym ed, sym en) (map_shift (λ s. number_above shape.depth shape.n tiles (stored_z shape.n s)) (pixel_at shape leaves k p) (4 ^ shape.n) 0 0
    (λ i below. above_cell shape leaves k p (stored_z shape.n (0 + i)) tiles (rw en small) h (stored_z_below shape.n (0 + i)) shows))
