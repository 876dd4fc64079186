-- The mosaic of a survey, from its tiles of order 3.
use Rattle.std.proofs.Common.{◌≡◌, ℕ, ◌+◌, ◌-◌, ◌*◌, ◌/◌, ◌^◌, ◌<◌, ◌≤◌, true, false, map, filter, List, [], ◌∷◌, Option, Some, None, refl, sym, ap, ◌∙◌, subst, arith, length, get_or, take, drop, ◌++◌, option_map, ◌↔◌, Result, Ok, Err, Vec, Global, replicate}
use Rattle.std.specs.Prelude.{All, IsTrue, IsNone, IfSome, IfOk}
use Rattle.std.specs.List.{range_with_len}
use Rattle.std.specs.Map.{keys_of}
use Rattle.std.proofs.lemmas.Bool.{or_left}
use Rattle.std.proofs.lemmas.List.Elements.{All-filter}
use Rattle.std.proofs.lemmas.List.FromFn.{length-range_with_len, length-map-range_with_len, get_or-range_with_len}
use Rattle.healpix_nested.specs.Cells.{cell_count, lies_under}
use Rattle.healpix_nested.specs.CellLaws.{under_ancestor}
use Rattle.pyramid_model.specs.Shape.{PyramidShape, LeafMap, FitsShape, IsShape}
use Rattle.pyramid_model.specs.Tile.{exists}
use Rattle.tile_pixels.specs.Tile.{PixelTile}
use Rattle.tile_pixels.specs.Stored.{numbers_from, stored_bytes}
use Rattle.tile_pixels.specs.StoredLaws.{AreBytes, AreBytes-take, AreBytes-drop, length-stored_bytes, stored_bytes-numbers_from}
use Rattle.fits_header.specs.Cards.{whole_blocks}
use Rattle.fits_header.specs.FitsFile.{fits_file, header_text}
use Rattle.fits_header.specs.WrittenCards.{end_card}
use Rattle.parent_rule.specs.Depth.{PixelDepth, is_bitpix}
use Rattle.leaf_store.specs.Store.{value_at}
use Rattle.survey_conf.specs.Description.{Description}
use Rattle.fits_tile.specs.TileFile.{image_file, image_cards}
use Rattle.allsky_mosaic.specs.Mosaic.{mosaic, mosaic_count, mosaic_number, width_of, height_of}
use Rattle.allsky_mosaic.specs.Tiles.{AreOfOrder3, IsSurvey, IsMosaic, ShowsCell, order_3, leaf_map}
use Rattle.allsky_mosaic.specs.Patch.{WasMosaic}
use Rattle.std.proofs.lemmas.List.{length-append, length-replicate, take_at, drop_at}
use Rattle.std.proofs.Math.Seq.{take-append_seam}
use Rattle.generation.specs.Files.{existing}
use Rattle.generation.specs.Kept.{tiles_of, pixel_len, file_pixels, ArePixels, ShowsBoth, IsMosaicFile, KeepsMosaic, WasMosaicFile}
use borrow.Rule.Slice.PartMut.{put_mid}
use Rattle.generation.proofs.Orders.{exists_in_order, keys_of-tiles, tiles_have_shape, tile_shows, value_there}

pub existing_in : (shape : PyramidShape) (leaves : LeafMap) (k : ℕ) → All (λ cell. cell < cell_count k) (existing shape leaves k)
existing_in shape leaves k = All-filter (exists shape leaves k) (λ cell. cell < cell_count k) (range_with_len 0 (cell_count k)) (λ n d h.
    let long : length (range_with_len 0 (cell_count k)) ≡ cell_count k = length-range_with_len 0 (cell_count k) in
    let here : get_or (range_with_len 0 (cell_count k)) n d ≡ 0 + n = get_or-range_with_len 0 (cell_count k) n d (omega arith) in
    omega arith)

pub order_3_tiles : (shape : PyramidShape) (leaves : LeafMap) (tiles : List (ℕ × PixelTile)) → tiles ≡ tiles_of shape leaves 3 → AreOfOrder3 shape.depth shape.n tiles
order_3_tiles shape leaves tiles is = subst (λ t. AreOfOrder3 shape.depth shape.n t) (sym is) (record {
  cells = subst (λ ks. All (λ cell. cell < cell_count 3) ks) (sym (keys_of-tiles shape leaves 3)) (existing_in shape leaves 3);
  shapes = tiles_have_shape shape leaves 3;
})

-- ---- no tiles where there are no leaves, and tiles where there are

none_selected : (xs : List ℕ) → filter (λ (_ : ℕ). false) xs ≡ []
none_selected [] = refl
none_selected (x ∷ xs) = none_selected xs

pub no_tiles : (shape : PyramidShape) (k : ℕ) → tiles_of shape [] k ≡ []
unfolding tiles_of
no_tiles shape k = ap (map _) (none_selected (range_with_len 0 (cell_count k)))

pub no_leaves : (shape : PyramidShape) (leaves : LeafMap) (k : ℕ) → shape.top ≤ 20 → k ≤ shape.top → All (λ leaf. leaf < cell_count shape.top) (keys_of leaves) → tiles_of shape leaves k ≡ [] → leaves ≡ []
no_leaves shape [] k small h cells none = refl
no_leaves shape (leaf ∷ leaves) k small h cells none =
    let p : ℕ = leaf.0 / 4 ^ (shape.top - k) in
    let under : lies_under shape.top leaf.0 k p ≡ true = under_ancestor shape.top leaf.0 k h in
    let there : exists shape (leaf ∷ leaves) k p ≡ true = or_left (lies_under shape.top leaf.0 k p) (exists shape leaves k p) under in
    let value = value_there shape (leaf ∷ leaves) k p there (exists_in_order shape (leaf ∷ leaves) k p small cells there) in
    let nothing = ap (value_at p) none in
    cc

-- what is made of tiles of order 3: nothing where there are none, and otherwise the mosaic of whatever survey has them
pub record IsMade (depth : PixelDepth) (n : ℕ) (tiles : List (ℕ × PixelTile)) (found : Option (Vec ℕ Global)) : Type 0 where
  pub none : IsNone found ↔ (tiles ≡ [])
  pub mosaic : IfSome found (λ raw. IsMosaic depth n (order_3 depth n) (leaf_map tiles) raw.items)
  pub survey : IfSome found (λ raw. (shape : PyramidShape) (leaves : LeafMap) → IsSurvey depth n shape → ((cell : ℕ) → cell < 768 → ShowsCell shape leaves tiles cell) → IsMosaic depth n shape leaves raw.items)

module _ (d : Description) (leaves : LeafMap) (tiles : List (ℕ × PixelTile)) (known : IsShape d.shape.top d.shape.low d.shape.n) (fits : FitsShape d.shape leaves) (is : tiles ≡ tiles_of d.shape leaves 3) where
  small : d.shape.top ≤ 20
  small = let top : d.shape.top ≤ 11 = known.greatest_top in omega arith

  pub shows_cells : (cell : ℕ) → cell < 768 → ShowsCell d.shape leaves tiles cell
  shows_cells cell h = subst (λ t. ShowsCell d.shape leaves t cell) (sym is) (tile_shows d.shape leaves 3 cell (λ e. h))

  pub is_survey : IsSurvey d.shape.depth d.shape.n d.shape
  is_survey = record { depth_is = refl; n_is = refl; top = known.least_top }

  pub empty_tiles : leaves ≡ [] → tiles ≡ []
  empty_tiles e = is ∙ ap (λ l. tiles_of d.shape l 3) e ∙ no_tiles d.shape 3

  pub empty_leaves : tiles ≡ [] → leaves ≡ []
  empty_leaves e = no_leaves d.shape leaves 3 small known.least_top fits.cells (sym is ∙ e)

  pub are_pixels : (found : Option (Vec ℕ Global)) → IsMade d.shape.depth d.shape.n tiles found → ArePixels d leaves (option_map (λ raw. raw.items) found)
  are_pixels None made = empty_leaves (made.none.0 refl)
  are_pixels (Some raw) made = record {
    some = λ e. let none = made.none.1 (empty_tiles e) in cc;
    survey = made.survey d.shape leaves is_survey shows_cells;
    order_3 = subst (λ t. IsMosaic d.shape.depth d.shape.n (order_3 d.shape.depth d.shape.n) (leaf_map t) raw.items) is made.mosaic;
  }

pub kept_file : {E : Type 0} (d : Description) (tiles : List (ℕ × PixelTile)) (found : Option (Vec ℕ Global)) (r : Result (Option (Vec ℕ Global)) E) → IsShape d.shape.top d.shape.low d.shape.n → IsMade d.shape.depth d.shape.n tiles found
    → IfOk r (λ file. (leaves : LeafMap) → ArePixels d leaves (option_map (λ raw. raw.items) found) → KeepsMosaic d leaves (option_map (λ f. f.items) file))
    → IfOk r (λ file. (leaves : LeafMap) → FitsShape d.shape leaves → tiles ≡ tiles_of d.shape leaves 3 → KeepsMosaic d leaves (option_map (λ f. f.items) file))
kept_file d tiles found (Ok file) known made kept = λ leaves fits is. kept leaves (are_pixels d leaves tiles known fits is found made)
kept_file d tiles found (Err e) known made kept = tt

pub no_file : (d : Description) (tiles : List (ℕ × PixelTile)) → IsShape d.shape.top d.shape.low d.shape.n → tiles ≡ [] → (leaves : LeafMap) → FitsShape d.shape leaves → tiles ≡ tiles_of d.shape leaves 3 → leaves ≡ []
no_file d tiles known none leaves fits is = empty_leaves d leaves tiles known fits is none

-- ---- the pixels in a file

file_end : (file head pixels : List ℕ) (wide total : ℕ) → length pixels ≡ wide → wide ≤ total → file ≡ head ++ (pixels ++ replicate (total - wide) 0)
    → (total ≤ length file) × (take wide (drop (length file - total) file) ≡ pixels)
file_end file head pixels wide total count fits is =
    let rest : length (pixels ++ replicate (total - wide) 0) ≡ length pixels + (total - wide) = length-append pixels (replicate (total - wide) 0) ∙ ap (λ n. length pixels + n) (length-replicate (total - wide) 0) in
    let long : length file ≡ length head + length (pixels ++ replicate (total - wide) 0) = ap length is ∙ length-append head (pixels ++ replicate (total - wide) 0) in
    let at : length file - total ≡ length head = omega arith in
    let dropped : drop (length file - total) file ≡ pixels ++ replicate (total - wide) 0 =
    ap (λ n. drop n file) at ∙ ap (drop (length head)) is ∙ drop_at head (pixels ++ replicate (total - wide) 0) (length head) refl in
    (omega arith, ap (λ n. take n (drop (length file - total) file)) (sym count) ∙ ap (take (length pixels)) dropped ∙ take-append_seam pixels (replicate (total - wide) 0))

pub image_end : (d : Description) (pixels file : List ℕ) → IsTrue (is_bitpix d.shape.depth.bitpix) → AreBytes pixels → length pixels ≡ pixel_len d
    → file ≡ image_file d (width_of d.shape.n) (height_of d.shape.n) (numbers_from d.shape.depth.bitpix (mosaic_count d.shape.n) pixels)
    → (whole_blocks (pixel_len d) ≤ length file) × (file_pixels d file ≡ pixels)
image_end d pixels file known bytes long is =
    let cards = image_cards d (width_of d.shape.n) (height_of d.shape.n) ++ end_card ∷ [] in
    let stored : stored_bytes d.shape.depth.bitpix (numbers_from d.shape.depth.bitpix (mosaic_count d.shape.n) pixels) ≡ pixels =
    stored_bytes-numbers_from d.shape.depth.bitpix (mosaic_count d.shape.n) pixels known long bytes in
    file_end file (header_text cards) pixels (pixel_len d) (whole_blocks (pixel_len d)) long (omega arith)
    (is ∙ ap (fits_file cards) stored ∙ ap (λ n. header_text cards ++ (pixels ++ replicate (whole_blocks n - n) 0)) long)

pub image_kept : (d : Description) (leaves : LeafMap) (raw file : List ℕ) → ShowsBoth d leaves raw
    → file ≡ image_file d (width_of d.shape.n) (height_of d.shape.n) (numbers_from d.shape.depth.bitpix (mosaic_count d.shape.n) raw)
    → whole_blocks (pixel_len d) ≤ length file → file_pixels d file ≡ raw → IsMosaicFile d leaves file
image_kept d leaves raw file shows made long pixels = record {
  some = shows.some;
  file_is = made ∙ ap (image_file d (width_of d.shape.n) (height_of d.shape.n)) shows.survey.numbers;
  long = long;
  pixels = subst (λ bytes. IsMosaic d.shape.depth d.shape.n (order_3 d.shape.depth d.shape.n) (leaf_map (tiles_of d.shape leaves 3)) bytes) (sym pixels) shows.order_3;
}

-- a part of a list between a head and an end is put in the place of another
put_between : (file head old pad pixels : List ℕ) (start size : ℕ) → file ≡ head ++ (old ++ pad) → length head ≡ start → length old ≡ size → put_mid start size file pixels ≡ head ++ (pixels ++ pad)
put_between file head old pad pixels start size is start_is size_is =
    let front : take start file ≡ head = ap (take start) is ∙ take_at head (old ++ pad) start start_is in
    let rest : drop start file ≡ old ++ pad = ap (drop start) is ∙ drop_at head (old ++ pad) start start_is in
    let behind : drop size (drop start file) ≡ pad = ap (drop size) rest ∙ drop_at old pad size size_is in
    ap (λ xs. xs ++ (pixels ++ drop size (drop start file))) front ∙ ap (λ xs. head ++ (pixels ++ xs)) behind

-- the file of a mosaic of other leaves, in which the pixels were made those of these leaves
head_at : (head whole start total wide old rest : ℕ) → whole ≡ head + rest → rest ≡ old + (total - wide) → old ≡ wide → wide ≤ total → start ≡ whole - total → head ≡ start
head_at head whole start total wide old rest whole_is rest_is old_is fits start_is = omega arith

-- and what was put is bytes where the whole is
part_bytes : (file head pixels pad : List ℕ) → file ≡ head ++ (pixels ++ pad) → AreBytes file → AreBytes pixels
part_bytes file head pixels pad is bytes =
    let rest : drop (length head) file ≡ pixels ++ pad = ap (drop (length head)) is ∙ drop_at head (pixels ++ pad) (length head) refl in
    let part : take (length pixels) (drop (length head) file) ≡ pixels = ap (take (length pixels)) rest ∙ take-append_seam pixels pad in
    subst AreBytes part (AreBytes-take (length pixels) (drop (length head) file) (AreBytes-drop (length head) file bytes))

pub image_patched : (d : Description) (before leaves : LeafMap) (file pixels : List ℕ) (start size : ℕ) → IsTrue (is_bitpix d.shape.depth.bitpix) → AreBytes (put_mid start size file pixels) → IsMosaicFile d before file
    → start ≡ length file - whole_blocks (pixel_len d) → size ≡ pixel_len d → ShowsBoth d leaves pixels → IsMosaicFile d leaves (put_mid start size file pixels)
unfolding mosaic
image_patched d before leaves file pixels start size known bytes was start_is size_is shows =
    let bits = d.shape.depth.bitpix in
    let cards = image_cards d (width_of d.shape.n) (height_of d.shape.n) ++ end_card ∷ [] in
    let head : List ℕ = header_text cards in
    let old : List ℕ = stored_bytes bits (mosaic d.shape before) in
    let pad : List ℕ = replicate (whole_blocks (pixel_len d) - pixel_len d) 0 in
    let count : length (mosaic d.shape before) ≡ mosaic_count d.shape.n = length-map-range_with_len (mosaic_number d.shape before) 0 (mosaic_count d.shape.n) in
    let old_long : length old ≡ pixel_len d = length-stored_bytes bits (mosaic d.shape before) known ∙ ap (λ (k : ℕ). k * (bits / 8)) count in
    let long : length pixels ≡ pixel_len d = shows.survey.long in
    let file_is : file ≡ head ++ (old ++ pad) = was.file_is ∙ ap (λ n. head ++ (old ++ replicate (whole_blocks n - n) 0)) old_long in
    let end_long : length (old ++ pad) ≡ length old + (whole_blocks (pixel_len d) - pixel_len d) = length-append old pad ∙ ap (λ n. length old + n) (length-replicate (whole_blocks (pixel_len d) - pixel_len d) 0) in
    let file_long : length file ≡ length head + length (old ++ pad) = ap length file_is ∙ length-append head (old ++ pad) in
    let at : length head ≡ start =
    head_at (length head) (length file) start (whole_blocks (pixel_len d)) (pixel_len d) (length old) (length (old ++ pad)) file_long end_long old_long (omega arith) start_is in
    let put : put_mid start size file pixels ≡ head ++ (pixels ++ pad) = put_between file head old pad pixels start size file_is at (old_long ∙ sym size_is) in
    let raw : AreBytes pixels = part_bytes (put_mid start size file pixels) head pixels pad put bytes in
    let stored : stored_bytes bits (numbers_from bits (mosaic_count d.shape.n) pixels) ≡ pixels = stored_bytes-numbers_from bits (mosaic_count d.shape.n) pixels known long raw in
    let made : put_mid start size file pixels ≡ image_file d (width_of d.shape.n) (height_of d.shape.n) (numbers_from bits (mosaic_count d.shape.n) pixels) =
    put ∙ ap (λ n. head ++ (pixels ++ replicate (whole_blocks n - n) 0)) (sym long) ∙ sym (ap (fits_file cards) stored) in
    let ends = image_end d pixels (put_mid start size file pixels) known raw long made in
    image_kept d leaves pixels (put_mid start size file pixels) shows made ends.0 ends.1

pub was_mosaic : (d : Description) (touched : List ℕ) (tiles : List (ℕ × PixelTile)) (file raw : List ℕ) → WasMosaicFile d touched tiles file → raw ≡ file_pixels d file
    → WasMosaic d.shape.depth d.shape.n touched tiles raw
was_mosaic d touched tiles file raw was is = (
  tiles_of d.shape was.before 3,
  record {
    tiles = order_3_tiles d.shape was.before (tiles_of d.shape was.before 3) refl;
    agrees = was.agrees;
    mosaic = subst (λ bytes. IsMosaic d.shape.depth d.shape.n (order_3 d.shape.depth d.shape.n) (leaf_map (tiles_of d.shape was.before 3)) bytes) (sym is) was.file_is.pixels;
  },
)
