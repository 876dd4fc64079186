-- A mosaic square by square: what was there before some cells were touched, and what all squares are together.
use Rattle.std.proofs.Common.{◌≡◌, ◌≢◌, ℕ, ◌+◌, ◌-◌, ◌*◌, ◌/◌, ◌%◌, ◌<◌, ◌≤◌, List, ℤ, length, take, drop, get_or, refl, sym, ap, subst, ◌∙◌, inl, inr, arith, pos}
use Rattle.std.specs.Prelude.{IsTrue, Contains}
use Rattle.std.proofs.lemmas.Bool.{cases_eq}
use Rattle.std.proofs.lemmas.Nat.{div-mul-add, mod-mul-add, row_fits}
use Rattle.std.proofs.lemmas.List.{length-take-le, length-drop}
use Rattle.std.proofs.lemmas.List.FromFn.{get_or-map-range_with_len}
use Rattle.parent_rule.specs.Depth.{PixelDepth, is_bitpix}
use Rattle.pyramid_model.specs.Shape.{PyramidShape, LeafMap}
use Rattle.tile_pixels.specs.Tile.{PixelTile}
use Rattle.tile_pixels.specs.Stored.{stored_at}
use Rattle.tile_pixels.specs.StoredLaws.{get_or-numbers_from, number_from-part}
use Rattle.allsky_mosaic.specs.Mosaic.{side_of, place_pixel, mosaic_number, mosaic_count, mosaic}
use Rattle.allsky_mosaic.specs.Tiles.{IsSurvey, IsMosaic, order_3, leaf_map}
use Rattle.allsky_mosaic.specs.Patch.{WasMosaicOf, WasMosaic}
use Rattle.allsky_mosaic.specs.Cells.{ShowCells, ShowBands, ShowsPlace, band_number, number_in_place}
use Rattle.allsky_mosaic.proofs.BandLemmas.{in_band}
use Rattle.allsky_mosaic.proofs.MosaicLemmas.{number_at, cells_of_tiles, mosaic_of_bands}
use Rattle.allsky_mosaic.proofs.SameCells.{same_place}
use Rattle.allsky_mosaic.proofs.Strips.{strip_in, strip_other}
use borrow.Rule.Slice.PartMut.{put_mid}

-- where a number of the square of a place stands
number_within : (side place t column : ℕ) → place < 783 → t < side → column < side → (28 - place / 27) * (27 * side * side) + ((t * 27 + place % 27) * side + column) < 27 * side * (29 * side)
number_within side place t column place_in t_in column_in =
    let row : 28 - place / 27 < 29 = omega arith in
    let col : place % 27 < 27 = omega arith in
    let here : (t * 27 + place % 27) * side + column < 27 * side * side = in_band side (place % 27) t column col t_in column_in in
    let rows : (28 - place / 27) * (27 * side * side) + 27 * side * side ≤ 29 * (27 * side * side) = row_fits (28 - place / 27) (27 * side * side) 29 (27 * side * side) row (omega arith) in
    omega arith

-- bytes that are a mosaic have its pixels in the square of each place
pub mosaic_shows : (shape : PyramidShape) (leaves : LeafMap) (depth : PixelDepth) (n : ℕ) (bytes : List ℕ) (place : ℕ) → IsSurvey depth n shape → IsMosaic depth n shape leaves bytes → place < 783 → ShowsPlace depth n shape leaves place bytes
unfolding mosaic
mosaic_shows shape leaves depth n bytes place survey is place_in t column t_in column_in =
    let side : ℕ = side_of n in
    let bits : ℕ = depth.bitpix in
    let s : ℕ = (28 - place / 27) * (27 * side * side) + ((t * 27 + place % 27) * side + column) in
    let within : s < mosaic_count n = number_within side place t column place_in t_in column_in in
    let count : mosaic_count shape.n ≡ mosaic_count n = ap mosaic_count survey.n_is in
    let within_shape : s < mosaic_count shape.n = rw count within in
    let row : 28 - place / 27 < 29 = omega arith in
    let col : place % 27 < 27 = omega arith in
    let P : ℕ → Type 0 = λ k. mosaic_number shape leaves ((28 - place / 27) * (27 * side_of k * side_of k) + ((t * 27 + place % 27) * side_of k + column)) ≡ place_pixel shape leaves ((28 - (28 - place / 27)) * 27 + place % 27) column (side_of k - 1 - t) in
    let at : P n = subst P survey.n_is (number_at shape leaves (28 - place / 27) t (place % 27) column row (rw survey.n_is t_in) col (rw survey.n_is column_in)) in
    let again : (28 - (28 - place / 27)) * 27 + place % 27 ≡ place = omega arith in
    sym (get_or-numbers_from bits (mosaic_count n) bytes s (pos 0) within) ∙ ap (λ (vs : List ℤ). get_or vs s (pos 0)) is.numbers
    ∙ get_or-map-range_with_len (mosaic_number shape leaves) 0 (mosaic_count shape.n) s s (pos 0) within_shape (omega arith)
    ∙ at ∙ ap (λ (k : ℕ). place_pixel shape leaves k column (side - 1 - t)) again

-- a place that isn't touched shows what a survey of the tiles there are now has there
pub untouched_shows : (shape : PyramidShape) (leaves : LeafMap) (depth : PixelDepth) (n : ℕ) (touched : List ℕ) (tiles : List (ℕ × PixelTile)) (bytes : List ℕ) (before : List (ℕ × PixelTile)) (place : ℕ) → n ≤ 9
    → WasMosaicOf depth n touched tiles bytes before → IsSurvey depth n shape → ShowCells shape leaves tiles → place < 783 → (Contains touched place → ⊥) → ShowsPlace depth n shape leaves place bytes
untouched_shows shape leaves depth n touched tiles bytes before place small was survey show place_in untouched t column t_in column_in =
    let other : PyramidShape = order_3 depth n in
    let survey_other : IsSurvey depth n other = record { depth_is = refl; n_is = refl; top = omega arith } in
    let show_other : ShowCells other (leaf_map before) before = cells_of_tiles depth n before small was.tiles in
    mosaic_shows other (leaf_map before) depth n bytes place survey_other was.mosaic place_in t column t_in column_in
    ∙ same_place shape leaves other (leaf_map before) depth n tiles before place column (side_of n - 1 - t) small survey survey_other show show_other (was.agrees place untouched) column_in (omega arith)

-- all places are all bands
pub bands_of_places : (shape : PyramidShape) (leaves : LeafMap) (depth : PixelDepth) (n : ℕ) (bytes : List ℕ) → IsSurvey depth n shape → ((place : ℕ) → place < 783 → ShowsPlace depth n shape leaves place bytes) → ShowBands shape leaves 28 29 bytes
bands_of_places shape leaves depth n bytes survey all b t col column b_in t_in col_in column_in =
    let side : ℕ = side_of shape.n in
    let place : ℕ = (28 - b) * 27 + col in
    let row : place / 27 ≡ 28 - b = div-mul-add (28 - b) 27 col col_in in
    let last : place % 27 ≡ col = mod-mul-add (28 - b) 27 col col_in in
    let band : 28 - place / 27 ≡ b = omega arith in
    let n_is : n ≡ shape.n = sym survey.n_is in
    let P : ℕ → Type 0 = λ k. (t column : ℕ) → t < side_of k → column < side_of k → number_in_place depth.bitpix (side_of k) bytes place t column ≡ place_pixel shape leaves place column (side_of k - 1 - t) in
    ap (λ (d : PixelDepth). stored_at d.bitpix bytes (b * (27 * side * side) + ((t * 27 + col) * side + column))) survey.depth_is
    ∙ ap (λ (k : ℕ). stored_at depth.bitpix bytes (k * (27 * side * side) + ((t * 27 + col) * side + column))) (sym band)
    ∙ ap (λ (k : ℕ). stored_at depth.bitpix bytes ((28 - place / 27) * (27 * side * side) + ((t * 27 + k) * side + column))) (sym last)
    ∙ subst P n_is (all place (omega arith)) t column t_in column_in

-- ---- a band that is made anew within a mosaic

-- the band of a row of places, from the top, is put in the place of the one that was there
pub record PutsBand (bits side row : ℕ) (band old new : List ℕ) : Type 0 where
  pub start : ℕ
  pub size : ℕ
  pub known : IsTrue (is_bitpix bits)
  pub start_is : start ≡ (28 - row) * (27 * side * side) * (bits / 8)
  pub size_is : size ≡ 27 * side * side * (bits / 8)
  pub new_is : new ≡ put_mid start size old band
  pub band_long : length band ≡ 27 * side * side * (bits / 8)
  pub long : length old ≡ 29 * (27 * side * side) * (bits / 8)

-- the bands of a mosaic
band_room : (b size : ℕ) → b < 29 → b * size + size ≤ 29 * size
band_room b size h = row_fits b size 29 size h (omega arith)

-- its numbers are those of the new band
pub put_read : (bits side place t column : ℕ) (band old new : List ℕ) → PutsBand bits side (place / 27) band old new → place < 783 → t < side → column < side
    → number_in_place bits side new place t column ≡ band_number bits side band (place % 27) t column
put_read bits side place t column band old new puts place_in t_in column_in =
    let size : ℕ = 27 * side * side in
    let b : ℕ = 28 - place / 27 in
    let col : place % 27 < 27 = omega arith in
    strip_in bits size b (29 * size) puts.start puts.size old band new ((t * 27 + place % 27) * side + column) puts.known puts.new_is puts.start_is puts.size_is puts.long puts.band_long
    (band_room b size (omega arith)) (in_band side (place % 27) t column col t_in column_in)

-- those of the other bands stay
pub put_other : (bits side row place t column : ℕ) (band old new : List ℕ) → PutsBand bits side row band old new → row < 29 → place < 783 → place / 27 ≢ row → t < side → column < side
    → number_in_place bits side new place t column ≡ number_in_place bits side old place t column
put_other bits side row place t column band old new puts row_in place_in apart t_in column_in =
    let size : ℕ = 27 * side * side in
    let col : place % 27 < 27 = omega arith in
    let here : place / 27 < 29 = omega arith in
    let bands : 28 - place / 27 ≢ 28 - row = omega arith in
    strip_other bits size (28 - row) (28 - place / 27) (29 * size) puts.start puts.size old band new ((t * 27 + place % 27) * side + column) puts.known puts.new_is puts.start_is puts.size_is puts.long puts.band_long
    (band_room (28 - row) size (omega arith)) (in_band side (place % 27) t column col t_in column_in) bands

-- and a band that is a part of the mosaic has the mosaic's
pub part_read : (bits side place t column start : ℕ) (band old : List ℕ) → IsTrue (is_bitpix bits) → start ≡ (28 - place / 27) * (27 * side * side) * (bits / 8) → band ≡ take (27 * side * side * (bits / 8)) (drop start old)
    → length old ≡ 29 * (27 * side * side) * (bits / 8) → place < 783 → t < side → column < side → band_number bits side band (place % 27) t column ≡ number_in_place bits side old place t column
part_read bits side place t column start band old known start_is is long place_in t_in column_in =
    let size : ℕ = 27 * side * side in
    let b : ℕ = 28 - place / 27 in
    let u : ℕ = (t * 27 + place % 27) * side + column in
    let col : place % 27 < 27 = omega arith in
    ap (λ (zs : List ℕ). stored_at bits zs u) (is ∙ ap (λ (k : ℕ). take (size * (bits / 8)) (drop k old)) start_is)
    ∙ number_from-part bits size (b * size) (29 * size) u old known (in_band side (place % 27) t column col t_in column_in) (band_room b size (omega arith)) long

-- so all squares but the one that was made anew stay
pub squares_kept : (bits side cell start : ℕ) (part band old new : List ℕ) → PutsBand bits side (cell / 27) band old new → start ≡ (28 - cell / 27) * (27 * side * side) * (bits / 8) → part ≡ take (27 * side * side * (bits / 8)) (drop start old)
    → cell < 783
    → ((t other column : ℕ) → t < side → other < 27 → other ≢ cell % 27 → column < side → band_number bits side band other t column ≡ band_number bits side part other t column)
    → (place t column : ℕ) → place < 783 → place ≢ cell → t < side → column < side → number_in_place bits side new place t column ≡ number_in_place bits side old place t column
squares_kept bits side cell start part band old new puts start_is is cell_in kept place t column place_in apart t_in column_in =
    elim (cases_eq (place / 27) (cell / 27)) [
      | inl same ↦
          let P : ℕ → Type 0 = λ row. PutsBand bits side row band old new in
          let here : PutsBand bits side (place / 27) band old new = subst P (sym same) puts in
          let col : place % 27 ≢ cell % 27 = omega arith in
          let col_in : place % 27 < 27 = omega arith in
          let at : start ≡ (28 - place / 27) * (27 * side * side) * (bits / 8) = start_is ∙ ap (λ (row : ℕ). (28 - row) * (27 * side * side) * (bits / 8)) (sym same) in
          put_read bits side place t column band old new here place_in t_in column_in ∙ kept t (place % 27) column t_in col_in col column_in
          ∙ part_read bits side place t column start part old puts.known at is puts.long place_in t_in column_in
      | inr other ↦ put_other bits side (cell / 27) place t column band old new puts (omega arith) place_in other t_in column_in
    ]

-- where the band of a row of places starts and how long it is, by the length of the mosaic, and what is there
abbrev pub start_of : ℕ → List ℕ → ℕ
start_of row old = (28 - row) * (length old / 29)

abbrev pub size_of : ℕ → List ℕ → ℕ
size_of row old = start_of row old + length old / 29 - start_of row old

abbrev pub band_in : ℕ → List ℕ → List ℕ
band_in row old = take (size_of row old) (drop (start_of row old) old)

start_is : (bits side row : ℕ) (old : List ℕ) → length old ≡ 29 * (27 * side * side) * (bits / 8) → start_of row old ≡ (28 - row) * (27 * side * side) * (bits / 8)
start_is bits side row old long =
    let size : length old / 29 ≡ 27 * side * side * (bits / 8) = omega arith in
    ap (λ (k : ℕ). (28 - row) * k) size ∙ omega arith

size_is : (bits side row : ℕ) (old : List ℕ) → length old ≡ 29 * (27 * side * side) * (bits / 8) → size_of row old ≡ 27 * side * side * (bits / 8)
size_is bits side row old long = omega arith

pub band_long : (bits side row : ℕ) (old : List ℕ) → length old ≡ 29 * (27 * side * side) * (bits / 8) → row < 29 → length (band_in row old) ≡ 27 * side * side * (bits / 8)
band_long bits side row old long row_in =
    let size : ℕ = 27 * side * side * (bits / 8) in
    let start : start_of row old ≡ (28 - row) * size = start_is bits side row old long ∙ omega arith in
    let room : (28 - row) * size + size ≤ 29 * size = band_room (28 - row) size (omega arith) in
    ap (λ (k : ℕ). length (take k (drop (start_of row old) old))) (size_is bits side row old long)
    ∙ length-take-le size (drop (start_of row old) old) (rw (length-drop (start_of row old) old) (omega arith))

pub puts_band : (bits side row : ℕ) (band old : List ℕ) → IsTrue (is_bitpix bits) → length old ≡ 29 * (27 * side * side) * (bits / 8) → length band ≡ length (band_in row old) → row < 29
    → PutsBand bits side row band old (put_mid (start_of row old) (size_of row old) old band)
puts_band bits side row band old known long same row_in = record {
  start = start_of row old;
  size = size_of row old;
  known = known;
  start_is = start_is bits side row old long;
  size_is = size_is bits side row old long;
  new_is = refl;
  band_long = same ∙ band_long bits side row old long row_in;
  long = long;
}

pub squares_stay : (bits side cell : ℕ) (band old : List ℕ) → IsTrue (is_bitpix bits) → length old ≡ 29 * (27 * side * side) * (bits / 8) → length band ≡ length (band_in (cell / 27) old) → cell < 783
    → ((t other column : ℕ) → t < side → other < 27 → other ≢ cell % 27 → column < side → band_number bits side band other t column ≡ band_number bits side (band_in (cell / 27) old) other t column)
    → (place t column : ℕ) → place < 783 → place ≢ cell → t < side → column < side
    → number_in_place bits side (put_mid (start_of (cell / 27) old) (size_of (cell / 27) old) old band) place t column ≡ number_in_place bits side old place t column
squares_stay bits side cell band old known long same cell_in kept =
    let row_in : cell / 27 < 29 = omega arith in
    squares_kept bits side cell (start_of (cell / 27) old) (band_in (cell / 27) old) band old _ (puts_band bits side (cell / 27) band old known long same row_in) (start_is bits side (cell / 27) old long)
    (ap (λ (k : ℕ). take k (drop (start_of (cell / 27) old) old)) (size_is bits side (cell / 27) old long)) cell_in kept

-- ---- the whole of it

-- where all places show a survey, the bytes are its mosaic
pub mosaic_of_places : (shape : PyramidShape) (leaves : LeafMap) (depth : PixelDepth) (n : ℕ) (bytes : List ℕ) → IsSurvey depth n shape → length bytes ≡ mosaic_count n * (depth.bitpix / 8)
    → ((place : ℕ) → place < 783 → ShowsPlace depth n shape leaves place bytes) → IsMosaic depth n shape leaves bytes
mosaic_of_places shape leaves depth n bytes survey long all =
    mosaic_of_bands shape leaves depth n bytes survey (long ∙ (let e : mosaic_count n * (depth.bitpix / 8) ≡ 29 * (27 * side_of n * side_of n) * (depth.bitpix / 8) = omega arith in e)) (bands_of_places shape leaves depth n bytes survey all)

-- a copy whose touched squares are made anew
pub patched : (shape : PyramidShape) (leaves : LeafMap) (depth : PixelDepth) (n : ℕ) (touched : List ℕ) (tiles : List (ℕ × PixelTile)) (bytes copy new : List ℕ) → n ≤ 9 → WasMosaic depth n touched tiles bytes → copy ≡ bytes
    → length new ≡ length copy → IsSurvey depth n shape → ShowCells shape leaves tiles
    → (((place : ℕ) → place < 783 → (Contains touched place → ⊥) → ShowsPlace depth n shape leaves place copy) → (place : ℕ) → place < 783 → ShowsPlace depth n shape leaves place new)
    → IsMosaic depth n shape leaves new
patched shape leaves depth n touched tiles bytes copy new small was same long survey show made =
    let P : List ℕ → Type 0 = λ zs. (place : ℕ) → place < 783 → (Contains touched place → ⊥) → ShowsPlace depth n shape leaves place zs in
    mosaic_of_places shape leaves depth n new survey (long ∙ ap length same ∙ was.1.mosaic.long)
    (made (subst P (sym same) (λ place place_in untouched. untouched_shows shape leaves depth n touched tiles bytes was.0 place small was.1 survey show place_in untouched)))
