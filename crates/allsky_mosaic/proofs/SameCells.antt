-- Cells of order 3 in two surveys: where their pixels are the same, so are the values of each order between.
use Rattle.std.proofs.Common.{◌≡◌, ℕ, zero, suc, ◌+◌, ◌-◌, ◌*◌, ◌^◌, ◌<◌, ◌≤◌, List, [], ◌∷◌, ℤ, Option, refl, sym, ap, subst, ◌∙◌, inl, inr, arith}
use Rattle.std.proofs.lemmas.Bool.{cases_lt}
use Rattle.healpix_nested.specs.Place.{z_order}
use Rattle.leaf_store.specs.Store.{value_at}
use Rattle.parent_rule.specs.Combined.{combined}
use Rattle.parent_rule.specs.Depth.{PixelDepth}
use Rattle.pyramid_model.specs.Shape.{PyramidShape, LeafMap}
use Rattle.pyramid_model.specs.Value.{value}
use Rattle.tile_pixels.specs.Tile.{PixelTile}
use Rattle.allsky_mosaic.specs.Mosaic.{cell_levels, side_of, place_pixel}
use Rattle.allsky_mosaic.specs.Tiles.{IsSurvey}
use Rattle.allsky_mosaic.specs.Cells.{ShowsSquare, ShowCells, pixel_or_blank}
use Rattle.allsky_mosaic.proofs.Halving.{halved_shows}
use Rattle.allsky_mosaic.proofs.Places.{place_in, place_past}

-- the values within a cell of order 3
abbrev value_square : PyramidShape → LeafMap → ℕ → ℕ → ℕ → ℕ → ℤ
value_square shape leaves cell levels column line = value shape leaves (3 + levels) (cell * 4 ^ levels + z_order column line)

-- the number combined of four of a square
abbrev combined_above : PixelDepth → (ℕ → ℕ → ℤ) → ℕ → ℕ → ℤ
combined_above depth f column line =
    combined depth.combine depth.blank (f (2 * column) (2 * line) ∷ f (2 * column) (2 * line + 1) ∷ f (2 * column + 1) (2 * line) ∷ f (2 * column + 1) (2 * line + 1) ∷ [])

-- a survey shows the values of another at an order, where it does so at an order below
same_up : (shape : PyramidShape) (leaves : LeafMap) (other : PyramidShape) (others : LeafMap) (cell levels more : ℕ) → levels + more ≤ 9 → 3 + levels + more ≤ shape.top + shape.n → 3 + levels + more ≤ other.top + other.n
    → shape.depth ≡ other.depth → ShowsSquare other others cell (levels + more) (value_square shape leaves cell (levels + more))
    → ShowsSquare other others cell levels (value_square shape leaves cell levels)
same_up shape leaves other others cell levels zero small above above_other same shows =
    let e : levels + zero ≡ levels = omega arith in
    let P : ℕ → Type 0 = λ k. ShowsSquare other others cell k (value_square shape leaves cell k) in
    subst P e shows
same_up shape leaves other others cell levels (suc more) small above above_other same shows =
    let e : levels + suc more ≡ levels + 1 + more = omega arith in
    let P : ℕ → Type 0 = λ k. ShowsSquare other others cell k (value_square shape leaves cell k) in
    let f : ℕ → ℕ → ℤ = value_square shape leaves cell (levels + 1) in
    let next : ShowsSquare other others cell (levels + 1) f = same_up shape leaves other others cell (levels + 1) more (omega arith) (omega arith) (omega arith) same (subst P e shows) in
    halved_shows other others cell levels f (value_square shape leaves cell levels) (omega arith) (omega arith) next
    (λ column line column_in line_in.
    sym (halved_shows shape leaves cell levels f (combined_above shape.depth f) (omega arith) (omega arith) (λ c l c_in l_in. refl) (λ c l c_in l_in. refl) column line column_in line_in)
    ∙ ap (λ (d : PixelDepth). combined_above d f column line) same)

-- so two surveys that show the same pixels of a cell have the same values above them
same_cell : (shape : PyramidShape) (leaves : LeafMap) (other : PyramidShape) (others : LeafMap) (depth : PixelDepth) (n cell : ℕ) (pixel : ℕ → ℕ → ℤ) → n ≤ 9 → IsSurvey depth n shape → IsSurvey depth n other
    → ShowsSquare shape leaves cell n pixel → ShowsSquare other others cell n pixel → ShowsSquare other others cell (cell_levels n) (value_square shape leaves cell (cell_levels n))
same_cell shape leaves other others depth n cell pixel small survey survey_other shows shows_other =
    let levels : ℕ = cell_levels n in
    let e : levels + (n - levels) ≡ n = omega arith in
    let same : shape.depth ≡ other.depth = survey.depth_is ∙ sym survey_other.depth_is in
    let n_is : shape.n ≡ n = survey.n_is in
    let n_is_other : other.n ≡ n = survey_other.n_is in
    let top : 3 ≤ shape.top = survey.top in
    let top_other : 3 ≤ other.top = survey_other.top in
    let P : ℕ → Type 0 = λ k. ShowsSquare other others cell k (value_square shape leaves cell k) in
    let lowest : P n = λ column line column_in line_in. sym (shows column line column_in line_in) ∙ shows_other column line column_in line_in in
    same_up shape leaves other others cell levels (n - levels) (omega arith) (omega arith) (omega arith) same (subst P (sym e) lowest)

-- what shows a cell, by the tile that is there
shown_by : (shape : PyramidShape) (leaves : LeafMap) (depth : PixelDepth) (n cell : ℕ) (tiles : List (ℕ × PixelTile)) (found : Option PixelTile) → IsSurvey depth n shape → ShowCells shape leaves tiles → cell < 768
    → value_at cell tiles ≡ found → ShowsSquare shape leaves cell n (pixel_or_blank depth.blank found)
shown_by shape leaves depth n cell tiles found survey show within is =
    let P : Option PixelTile → Type 0 = λ v. ShowsSquare shape leaves cell shape.n (pixel_or_blank shape.depth.blank v) in
    let Q : PixelDepth → Type 0 = λ d. ShowsSquare shape leaves cell shape.n (pixel_or_blank d.blank found) in
    let R : ℕ → Type 0 = λ k. ShowsSquare shape leaves cell k (pixel_or_blank depth.blank found) in
    subst R survey.n_is (subst Q survey.depth_is (subst P is (show cell within)))

-- a place of the mosaic, by the values of a survey's cell
place_value : (shape : PyramidShape) (leaves : LeafMap) (n place column line : ℕ) → shape.n ≡ n → place < 768 → place_pixel shape leaves place column line ≡ value_square shape leaves place (cell_levels n) column line
place_value shape leaves n place column line is within =
    place_in shape leaves place column line within ∙ ap (λ (k : ℕ). value shape leaves (3 + cell_levels k) (place * 4 ^ cell_levels k + z_order column line)) is

-- where the tiles of a place agree, so do the pixels of the mosaic
pub same_place : (shape : PyramidShape) (leaves : LeafMap) (other : PyramidShape) (others : LeafMap) (depth : PixelDepth) (n : ℕ) (tiles before : List (ℕ × PixelTile)) (place column line : ℕ) → n ≤ 9
    → IsSurvey depth n shape → IsSurvey depth n other → ShowCells shape leaves tiles → ShowCells other others before → value_at place before ≡ value_at place tiles → column < side_of n → line < side_of n
    → place_pixel other others place column line ≡ place_pixel shape leaves place column line
same_place shape leaves other others depth n tiles before place column line small survey survey_other show show_other agree column_in line_in =
    elim (cases_lt place 768) [
      | inl within ↦
          let found : Option PixelTile = value_at place tiles in
          let here : ShowsSquare shape leaves place n (pixel_or_blank depth.blank found) = shown_by shape leaves depth n place tiles found survey show within refl in
          let there : ShowsSquare other others place n (pixel_or_blank depth.blank found) = shown_by other others depth n place before found survey_other show_other within agree in
          place_value other others n place column line survey_other.n_is within
          ∙ sym (same_cell shape leaves other others depth n place (pixel_or_blank depth.blank found) small survey survey_other here there column line column_in line_in)
          ∙ sym (place_value shape leaves n place column line survey.n_is within)
      | inr past ↦
          place_past other others place column line past ∙ ap (λ (d : PixelDepth). d.blank) (survey_other.depth_is ∙ sym survey.depth_is) ∙ sym (place_past shape leaves place column line past)
    ]
