-- Bands of 27 squares, one behind the other.
use Rattle.std.proofs.Common.{◌≡◌, ℕ, ◌+◌, ◌-◌, ◌*◌, ◌/◌, ◌<◌, ◌≤◌, List, ◌++◌, length, length-append, sym, ap, subst, ◌∙◌, inl, inr, arith}
use Rattle.std.specs.Prelude.{IsTrue}
use Rattle.std.proofs.lemmas.Bool.{cases_lt}
use Rattle.std.proofs.lemmas.Nat.{row_fits}
use Rattle.parent_rule.specs.Depth.{PixelDepth, is_bitpix}
use Rattle.pyramid_model.specs.Shape.{PyramidShape, LeafMap}
use Rattle.allsky_mosaic.specs.Mosaic.{side_of, place_pixel}
use Rattle.allsky_mosaic.specs.Tiles.{IsSurvey}
use Rattle.tile_pixels.specs.Stored.{stored_at}
use Rattle.tile_pixels.specs.Tile.{PixelTile}
use Rattle.allsky_mosaic.specs.Cells.{band_number, ShowBands, AreBands}
use Rattle.allsky_mosaic.proofs.Strips.{strip_room}
use Rattle.allsky_mosaic.proofs.Appended.{stored_at-front, stored_at-back}

-- where a number of a square stands in its band
pub in_band : (side col t column : ℕ) → col < 27 → t < side → column < side → (t * 27 + col) * side + column < 27 * side * side
in_band side col t column col_in t_in column_in = let room = strip_room side col t t_in col_in in omega (arith, room)

-- one band
pub band_shows : (shape : PyramidShape) (leaves : LeafMap) (depth : PixelDepth) (n row : ℕ) (band bytes : List ℕ) → IsSurvey depth n shape → bytes ≡ band
    → ((col t column : ℕ) → col < 27 → t < side_of n → column < side_of n → band_number depth.bitpix (side_of n) band col t column ≡ place_pixel shape leaves (row * 27 + col) column (side_of n - 1 - t))
    → ShowBands shape leaves row 1 bytes
band_shows shape leaves depth n row band bytes survey is all b t col column b_in t_in col_in column_in =
    let side : ℕ = side_of shape.n in
    let place : ℕ = (t * 27 + col) * side + column in
    let first : b ≡ 0 = omega arith in
    let at : b * (27 * side * side) + place ≡ place = ap (λ (k : ℕ). k * (27 * side * side) + place) first ∙ omega arith in
    let up : row - b ≡ row = omega arith in
    let P : ℕ → Type 0 = λ k. (col t column : ℕ) → col < 27 → t < side_of k → column < side_of k → band_number depth.bitpix (side_of k) band col t column ≡ place_pixel shape leaves (row * 27 + col) column (side_of k - 1 - t) in
    ap (λ (k : ℕ). stored_at shape.depth.bitpix bytes k) at ∙ ap (λ (d : PixelDepth). stored_at d.bitpix bytes place) survey.depth_is ∙ ap (λ (zs : List ℕ). stored_at depth.bitpix zs place) is
    ∙ subst P (sym survey.n_is) all col t column col_in t_in column_in
    ∙ ap (λ (r : ℕ). place_pixel shape leaves (r * 27 + col) column (side - 1 - t)) (sym up)

-- bands behind others, those of the rows of places above theirs
pub bands_joined : (shape : PyramidShape) (leaves : LeafMap) (depth : PixelDepth) (n row low high : ℕ) (first last all : List ℕ) → IsSurvey depth n shape → IsTrue (is_bitpix depth.bitpix)
    → length first ≡ low * (27 * side_of n * side_of n) * (depth.bitpix / 8) → all ≡ first ++ last → ShowBands shape leaves row low first → ShowBands shape leaves (row - low) high last → ShowBands shape leaves row (low + high) all
bands_joined shape leaves depth n row low high first last all survey known long is below above b t col column b_in t_in col_in column_in =
    let side : ℕ = side_of shape.n in
    let bits : ℕ = shape.depth.bitpix in
    let size : ℕ = 27 * side * side in
    let place : ℕ = (t * 27 + col) * side + column in
    let within : place < size = in_band side col t column col_in t_in column_in in
    let known_shape : IsTrue (is_bitpix bits) = rw survey.depth_is known in
    let long_shape : length first ≡ low * size * (bits / 8) = rw (survey.n_is, survey.depth_is) long in
    ap (λ (zs : List ℕ). stored_at bits zs (b * size + place)) is
    ∙ (elim (cases_lt b low) [
      | inl earlier ↦
          let fits : b * size + size ≤ low * size = row_fits b size low size earlier (omega arith) in
          stored_at-front bits (low * size) (b * size + place) first last known_shape long_shape (omega arith) ∙ below b t col column earlier t_in col_in column_in
      | inr later ↦
          let up : ℕ = b - low in
          let b_is : low + up ≡ b = omega arith in
          let split : b * size + place ≡ low * size + (up * size + place) = ap (λ (k : ℕ). k * size + place) (sym b_is) ∙ omega arith in
          let rows : row - low - up ≡ row - b = omega arith in
          ap (stored_at bits (first ++ last)) split ∙ stored_at-back bits (low * size) (up * size + place) first last long_shape
          ∙ above up t col column (omega arith) t_in col_in column_in
          ∙ ap (λ (r : ℕ). place_pixel shape leaves (r * 27 + col) column (side - 1 - t)) rows
    ])

-- two runs of bands are one
pub two_runs : (depth : PixelDepth) (n row low high : ℕ) (tiles : List (ℕ × PixelTile)) (first last all : List ℕ) → IsTrue (is_bitpix depth.bitpix) → all ≡ first ++ last
    → AreBands depth n tiles row low first → AreBands depth n tiles (row - low) high last → AreBands depth n tiles row (low + high) all
two_runs depth n row low high tiles first last all known is below above =
    let long_first : length first ≡ low * (27 * side_of n * side_of n) * (depth.bitpix / 8) = below.long in
    let long_last : length last ≡ high * (27 * side_of n * side_of n) * (depth.bitpix / 8) = above.long in
    let both : length all ≡ length first + length last = ap length is ∙ length-append first last in
    record {
      long = omega arith;
      shown = λ shape leaves survey show. bands_joined shape leaves depth n row low high first last all survey known below.long is (below.shown shape leaves survey show) (above.shown shape leaves survey show);
    }
