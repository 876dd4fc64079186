-- All bands are the mosaic, and what shows the cells of order 3.
use Rattle.std.proofs.Common.{◌≡◌, ℕ, ◌+◌, ◌-◌, ◌*◌, ◌/◌, ◌%◌, ◌^◌, ◌<◌, ◌≤◌, List, ℤ, Option, Some, None, option_map, length, get_or, refl, sym, ap, ◌∙◌, arith, pos}
use Rattle.std.specs.Prelude.{IfSome}
use Rattle.std.specs.BTreeMap.{is_at}
use Rattle.std.specs.Ordering.{nat_cmp}
use Rattle.std.proofs.lemmas.Nat.{div-mul-add, mod-mul-add, div-add-mod', div_below, mod_below, mul-add-lt, pow_pos, row_fits}
use Rattle.std.proofs.lemmas.List.FromFn.{fill_by_all}
use Rattle.std.proofs.lemmas.List.Elements.{All-get_or}
use Rattle.std.proofs.lemmas.Map.Made.{lookup-map_values}
use Rattle.std.proofs.lemmas.Map.Views.{IfSome-lookup_from_All}
use Rattle.std.proofs.lemmas.Option.{get_or_from_slice_get}
use Rattle.healpix_nested.specs.Place.{z_order, stored_z, column_of, line_of}
use Rattle.healpix_nested.specs.PlaceLaws.{square_of_side, column_of-z_order, line_of-z_order, z_order_below, side_at_most}
use Rattle.parent_rule.specs.Depth.{PixelDepth}
use Rattle.leaf_store.specs.Store.{value_at}
use Rattle.pyramid_model.specs.Shape.{PyramidShape, LeafMap, leaf_numbers}
use Rattle.pyramid_model.specs.Value.{value, pixel_of}
use Rattle.pyramid_model.specs.ValueLaws.{value_pixel}
use Rattle.pyramid_model.specs.Tile.{pixels, pixel_at}
use Rattle.pyramid_model.specs.TileLaws.{pixels_entry, pixels_count, pixels_blank}
use Rattle.tile_pixels.specs.Stored.{numbers_from, stored_at}
use Rattle.tile_pixels.specs.StoredLaws.{length-numbers_from, get_or-numbers_from}
use Rattle.tile_pixels.specs.Tile.{PixelTile, HasShape}
use Rattle.tile_pixels.specs.Merge.{Shows}
use Rattle.allsky_mosaic.specs.Mosaic.{side_of, place_pixel, mosaic_number, mosaic_count, mosaic}
use Rattle.allsky_mosaic.specs.Tiles.{AreOfOrder3, IsSurvey, IsMosaic, ShowsCell, order_3, leaf_map}
use Rattle.allsky_mosaic.specs.Cells.{ShowsSquare, ShowCells, ShowBands, pixel_or_blank}

-- ---- where a number of a band stands in the mosaic

-- number u of strip t, col of band b
pub number_at : (shape : PyramidShape) (leaves : LeafMap) (b t col u : ℕ) → b < 29 → t < side_of shape.n → col < 27 → u < side_of shape.n
    → mosaic_number shape leaves (b * (27 * side_of shape.n * side_of shape.n) + ((t * 27 + col) * side_of shape.n + u)) ≡ place_pixel shape leaves ((28 - b) * 27 + col) u (side_of shape.n - 1 - t)
number_at shape leaves b t col u b_in t_in col_in u_in =
    let side : ℕ = side_of shape.n in
    let s : ℕ = b * (27 * side * side) + ((t * 27 + col) * side + u) in
    let width : ℕ = 27 * side in
    let column : ℕ = col * side + u in
    let up : ℕ = 28 - b in
    let column_fits : col * side + side ≤ 27 * side = row_fits col side 27 side col_in (omega arith) in
    let column_in : column < width = omega arith in
    let s_is : s ≡ (b * side + t) * width + column = omega arith in
    let row_is : s / width ≡ b * side + t = ap (λ (x : ℕ). x / width) s_is ∙ div-mul-add (b * side + t) width column column_in in
    let column_is : s % width ≡ column = ap (λ (x : ℕ). x % width) s_is ∙ mod-mul-add (b * side + t) width column column_in in
    let both : b + up ≡ 28 = omega arith in
    let rows : (b + up) * side ≡ 28 * side = ap (λ (k : ℕ). k * side) both in
    let line_is : 29 * side - 1 - s / width ≡ up * side + (side - 1 - t) = ap (λ (x : ℕ). 29 * side - 1 - x) row_is ∙ omega arith in
    let t_back : side - 1 - t < side = omega arith in
    let l_div : (up * side + (side - 1 - t)) / side ≡ up = div-mul-add up side (side - 1 - t) t_back in
    let l_mod : (up * side + (side - 1 - t)) % side ≡ side - 1 - t = mod-mul-add up side (side - 1 - t) t_back in
    let c_div : column / side ≡ col = div-mul-add col side u u_in in
    let c_mod : column % side ≡ u = mod-mul-add col side u u_in in
    ap (λ (x : ℕ). place_pixel shape leaves ((29 * side - 1 - s / width) / side * 27 + x / side) (x % side) ((29 * side - 1 - s / width) % side)) column_is
    ∙ ap (λ (y : ℕ). place_pixel shape leaves (y / side * 27 + column / side) (column % side) (y % side)) line_is
    ∙ ap (λ (y : ℕ). place_pixel shape leaves (y * 27 + column / side) (column % side) ((up * side + (side - 1 - t)) % side)) l_div
    ∙ ap (λ (y : ℕ). place_pixel shape leaves (up * 27 + column / side) (column % side) y) l_mod
    ∙ ap (λ (x : ℕ). place_pixel shape leaves (up * 27 + x) (column % side) (side - 1 - t)) c_div
    ∙ ap (λ (x : ℕ). place_pixel shape leaves (up * 27 + col) x (side - 1 - t)) c_mod

-- each number of the mosaic is one of a band
shown_number : (shape : PyramidShape) (leaves : LeafMap) (bytes : List ℕ) (s : ℕ) → ShowBands shape leaves 28 29 bytes → s < mosaic_count shape.n → stored_at shape.depth.bitpix bytes s ≡ mosaic_number shape leaves s
shown_number shape leaves bytes s shows s_in =
    let side : ℕ = side_of shape.n in
    let some : 0 < side = pow_pos _ in
    let strip : ℕ = s / side in
    let u : ℕ = s % side in
    let u_in : u < side = mod_below s side some in
    let s_parts : strip * side + u ≡ s = div-add-mod' s side in
    let strip_in : strip < 27 * (29 * side) = div_below s side (27 * (29 * side)) some (omega arith) in
    let q : ℕ = strip / 27 in
    let col : ℕ = strip % 27 in
    let q_in : q < 29 * side = omega arith in
    let b : ℕ = q / side in
    let t : ℕ = q % side in
    let t_in : t < side = mod_below q side some in
    let q_parts : b * side + t ≡ q = div-add-mod' q side in
    let b_in : b < 29 = div_below q side 29 some (omega arith) in
    let strip_parts : q * 27 + col ≡ strip = omega arith in
    let col_in : col < 27 = omega arith in
    let again : b * (27 * side * side) + ((t * 27 + col) * side + u) ≡ s =
    (let e : b * (27 * side * side) + ((t * 27 + col) * side + u) ≡ ((b * side + t) * 27 + col) * side + u = omega arith in e)
    ∙ ap (λ (x : ℕ). (x * 27 + col) * side + u) q_parts ∙ ap (λ (x : ℕ). x * side + u) strip_parts ∙ s_parts in
    ap (stored_at shape.depth.bitpix bytes) (sym again) ∙ shows b t col u b_in t_in col_in u_in ∙ sym (number_at shape leaves b t col u b_in t_in col_in u_in) ∙ ap (mosaic_number shape leaves) again

pub mosaic_of_bands : (shape : PyramidShape) (leaves : LeafMap) (depth : PixelDepth) (n : ℕ) (bytes : List ℕ) → IsSurvey depth n shape → length bytes ≡ 29 * (27 * side_of n * side_of n) * (depth.bitpix / 8)
    → ShowBands shape leaves 28 29 bytes → IsMosaic depth n shape leaves bytes
unfolding mosaic
mosaic_of_bands shape leaves depth n bytes survey long shows =
    let count : mosaic_count shape.n ≡ mosaic_count n = ap mosaic_count survey.n_is in
    record {
      long = long ∙ (let e : 29 * (27 * side_of n * side_of n) * (depth.bitpix / 8) ≡ mosaic_count n * (depth.bitpix / 8) = omega arith in e);
      numbers = ap (λ (d : PixelDepth). numbers_from d.bitpix (mosaic_count n) bytes) (sym survey.depth_is) ∙ ap (λ (k : ℕ). numbers_from shape.depth.bitpix k bytes) (sym count)
          ∙ fill_by_all (mosaic_number shape leaves) (numbers_from shape.depth.bitpix (mosaic_count shape.n) bytes) (mosaic_count shape.n) (pos 0)
          (length-numbers_from shape.depth.bitpix (mosaic_count shape.n) bytes)
          (λ s s_in. get_or-numbers_from shape.depth.bitpix (mosaic_count shape.n) bytes s (pos 0) s_in ∙ shown_number shape leaves bytes s shows s_in);
    }

-- ---- what shows the cells of order 3

-- the place of a pixel within a tile
place_within : (n column line : ℕ) → column < 2 ^ n → line < 2 ^ n → (2 ^ n - 1 - line) * 2 ^ n + column < 4 ^ n
place_within n column line column_in line_in =
    let square : 2 ^ n * 2 ^ n ≡ 4 ^ n = square_of_side n in
    let fits : (2 ^ n - 1 - line) * 2 ^ n + column < 2 ^ n * 2 ^ n = mul-add-lt (2 ^ n - 1 - line) (2 ^ n) column (2 ^ n) (omega arith) column_in in
    omega arith

z_of_place : (n column line : ℕ) → column < 2 ^ n → line < 2 ^ n → stored_z n ((2 ^ n - 1 - line) * 2 ^ n + column) ≡ z_order column line
z_of_place n column line column_in line_in =
    let s : ℕ = (2 ^ n - 1 - line) * 2 ^ n + column in
    let col : s % 2 ^ n ≡ column = mod-mul-add (2 ^ n - 1 - line) (2 ^ n) column column_in in
    let row : s / 2 ^ n ≡ 2 ^ n - 1 - line = div-mul-add (2 ^ n - 1 - line) (2 ^ n) column column_in in
    let back : 2 ^ n - 1 - s / 2 ^ n ≡ line = omega arith in
    ap (λ (c : ℕ). z_order c (2 ^ n - 1 - s / 2 ^ n)) col ∙ ap (z_order column) back

-- the number of a tile of a leaf map, in a column and a line
pixel_of_tile : (shape : PyramidShape) (leaves : LeafMap) (cell column line : ℕ) (d : ℤ) → column < 2 ^ shape.n → line < 2 ^ shape.n
    → get_or (pixels shape leaves 3 cell) ((2 ^ shape.n - 1 - line) * 2 ^ shape.n + column) d ≡ value shape leaves (3 + shape.n) (cell * 4 ^ shape.n + z_order column line)
pixel_of_tile shape leaves cell column line d column_in line_in =
    let s : ℕ = (2 ^ shape.n - 1 - line) * 2 ^ shape.n + column in
    get_or_from_slice_get (pixels shape leaves 3 cell) s (pixel_at shape leaves 3 cell s) d (pixels_entry shape leaves 3 cell s (place_within shape.n column line column_in line_in))
    ∙ ap (λ (z : ℕ). value shape leaves (3 + shape.n) (cell * 4 ^ shape.n + z)) (z_of_place shape.n column line column_in line_in)

cell_shown : (shape : PyramidShape) (leaves : LeafMap) (depth : PixelDepth) (n cell : ℕ) (v : Option PixelTile) → IsSurvey depth n shape → IfSome v (λ t. HasShape t depth n)
    → Shows shape leaves 3 cell (option_map (λ t. t.numbers) v) → ShowsSquare shape leaves cell shape.n (pixel_or_blank shape.depth.blank v)
cell_shown shape leaves depth n cell None survey has shows column line column_in line_in =
    let s : ℕ = (2 ^ shape.n - 1 - line) * 2 ^ shape.n + column in
    let within : s < length (pixels shape leaves 3 cell) = rw (pixels_count shape leaves 3 cell) (place_within shape.n column line column_in line_in) in
    let blank : get_or (pixels shape leaves 3 cell) s shape.depth.blank ≡ shape.depth.blank =
    All-get_or (λ x. x ≡ shape.depth.blank) (pixels shape leaves 3 cell) s shape.depth.blank within (pixels_blank shape leaves 3 cell survey.top shows) in
    sym blank ∙ pixel_of_tile shape leaves cell column line shape.depth.blank column_in line_in
cell_shown shape leaves depth n cell (Some t) survey has shows column line column_in line_in =
    let same : t.n ≡ shape.n = has.1 ∙ sym survey.n_is in
    ap (λ (k : ℕ). get_or t.numbers ((2 ^ k - 1 - line) * 2 ^ k + column) t.depth.blank) same
    ∙ ap (λ (ns : List ℤ). get_or ns ((2 ^ shape.n - 1 - line) * 2 ^ shape.n + column) t.depth.blank) shows.1
    ∙ pixel_of_tile shape leaves cell column line t.depth.blank column_in line_in

-- the tiles of a survey do
pub cells_of_survey : (shape : PyramidShape) (leaves : LeafMap) (depth : PixelDepth) (n : ℕ) (tiles : List (ℕ × PixelTile)) → AreOfOrder3 depth n tiles → IsSurvey depth n shape
    → ((cell : ℕ) → cell < 768 → ShowsCell shape leaves tiles cell) → ShowCells shape leaves tiles
cells_of_survey shape leaves depth n tiles are survey shows cell h =
    cell_shown shape leaves depth n cell (value_at cell tiles) survey (IfSome-lookup_from_All (λ t. HasShape t depth n) (is_at (nat_cmp cell)) tiles are.shapes) (shows cell h)

-- the number of a leaf, in a column and a line
leaf_pixel : (depth : PixelDepth) (n cell column line : ℕ) (v : Option PixelTile) → n ≤ 9 → column < 2 ^ n → line < 2 ^ n → IfSome v (λ t. HasShape t depth n)
    → pixel_or_blank depth.blank v column line ≡ pixel_of (order_3 depth n) (option_map (λ t. t.numbers) v) (z_order column line)
leaf_pixel depth n cell column line None small column_in line_in has = refl
leaf_pixel depth n cell column line (Some t) small column_in line_in has =
    let side : 2 ^ n ≤ 512 = side_at_most n small in
    let c : column_of (z_order column line) ≡ column = column_of-z_order column line (omega arith) in
    let l : line_of (z_order column line) ≡ line = line_of-z_order column line (omega arith) in
    ap (λ (k : ℕ). get_or t.numbers ((2 ^ k - 1 - line) * 2 ^ k + column) t.depth.blank) has.1
    ∙ ap (λ (d : PixelDepth). get_or t.numbers ((2 ^ n - 1 - line) * 2 ^ n + column) d.blank) has.0
    ∙ ap (λ (x : ℕ). get_or t.numbers ((2 ^ n - 1 - x) * 2 ^ n + column) depth.blank) (sym l)
    ∙ ap (λ (x : ℕ). get_or t.numbers ((2 ^ n - 1 - line_of (z_order column line)) * 2 ^ n + x) depth.blank) (sym c)

-- tiles show the cells of the pyramid of which they are the leaves
pub cells_of_tiles : (depth : PixelDepth) (n : ℕ) (tiles : List (ℕ × PixelTile)) → n ≤ 9 → AreOfOrder3 depth n tiles → ShowCells (order_3 depth n) (leaf_map tiles) tiles
cells_of_tiles depth n tiles small are cell h column line column_in line_in =
    let shape : PyramidShape = order_3 depth n in
    let z : ℕ = z_order column line in
    let z_in : z < 4 ^ n = z_order_below n column line column_in line_in in
    let q : ℕ = cell * 4 ^ n + z in
    leaf_pixel depth n cell column line (value_at cell tiles) small column_in line_in (IfSome-lookup_from_All (λ t. HasShape t depth n) (is_at (nat_cmp cell)) tiles are.shapes)
    ∙ ap (λ (ns : Option (List ℤ)). pixel_of shape ns z) (sym (lookup-map_values (λ t. t.numbers) (is_at (nat_cmp cell)) tiles))
    ∙ ap (λ (k : ℕ). pixel_of shape (leaf_numbers (leaf_map tiles) k) z) (sym (div-mul-add cell (4 ^ n) z z_in))
    ∙ ap (λ (k : ℕ). pixel_of shape (leaf_numbers (leaf_map tiles) (q / 4 ^ n)) k) (sym (mod-mul-add cell (4 ^ n) z z_in))
    ∙ sym (value_pixel shape (leaf_map tiles) (3 + n) q refl)
