-- The places of a mosaic: the pixels of a cell of order 3, whether its tile is there or not.
use Rattle.std.proofs.Common.{◌≡◌, ◌≢◌, ℕ, ◌+◌, ◌-◌, ◌*◌, ◌^◌, ◌<◌, ◌≤◌, List, [], ◌∷◌, ℤ, Option, Some, None, true, false, cond, refl, sym, ap, subst, ◌∙◌, inl, inr, arith}
use Rattle.std.specs.Prelude.{All, IfSome, nat_lt}
use Rattle.std.specs.Map.{keys_of}
use Rattle.std.specs.BTreeMap.{is_at}
use Rattle.std.specs.Ordering.{nat_cmp}
use Rattle.std.proofs.lemmas.Bool.{cases_lt}
use Rattle.std.proofs.lemmas.Bool.Decides.{nat_tests}
use Rattle.std.proofs.lemmas.List.Elements.{All-head, All-tail}
use Rattle.std.proofs.lemmas.Map.Views.{IfSome-lookup_from_All}
use Rattle.healpix_nested.specs.Place.{z_order}
use Rattle.parent_rule.specs.Depth.{PixelDepth}
use Rattle.leaf_store.specs.Store.{value_at}
use Rattle.pyramid_model.specs.Shape.{PyramidShape, LeafMap}
use Rattle.pyramid_model.specs.Value.{value}
use Rattle.tile_pixels.specs.Tile.{PixelTile, HasShape, pixel_in}
use Rattle.allsky_mosaic.specs.Mosaic.{cell_levels, side_of, place_pixel}
use Rattle.allsky_mosaic.specs.Tiles.{AreOfOrder3, IsSurvey}
use Rattle.allsky_mosaic.specs.Cells.{ShowsSquare, ShowCells, pixel_or_blank, band_number}
use Rattle.allsky_mosaic.proofs.Halving.{blank_above}

-- a pixel of a place that is a cell of order 3, and of one past them
pub place_in : (shape : PyramidShape) (leaves : LeafMap) (place column line : ℕ) → place < 768
    → place_pixel shape leaves place column line ≡ value shape leaves (3 + cell_levels shape.n) (place * 4 ^ cell_levels shape.n + z_order column line)
place_in shape leaves place column line h = let test : nat_lt place 768 ≡ true = grind (arith, nat_tests) in rw test refl

pub place_past : (shape : PyramidShape) (leaves : LeafMap) (place column line : ℕ) → 768 ≤ place → place_pixel shape leaves place column line ≡ shape.depth.blank
place_past shape leaves place column line h = let test : nat_lt place 768 ≡ false = grind (arith, nat_tests) in rw test refl

-- what is there at a key has a key of order 3
key_of_found : (cell : ℕ) (tiles : List (ℕ × PixelTile)) (t : PixelTile) → All (λ k. k < 768) (keys_of tiles) → Some t ≡ value_at cell tiles → cell < 768
key_of_found cell [] t all found = cc
key_of_found cell (e ∷ es) t all found =
    elim (is_at (nat_cmp cell) e.0) as (λ b. is_at (nat_cmp cell) e.0 ≡ b → Some t ≡ cond b (Some e.1) (value_at cell es) → cell < 768) [
      | true ↦ λ at is. let same : cell ≡ e.0 = grind (arith, nat_tests) in let first : e.0 < 768 = All-head (λ k. k < 768) e.0 (keys_of es) all in omega arith
      | false ↦ λ at is. key_of_found cell es t (All-tail (λ k. k < 768) e.0 (keys_of es) all) is
    ] refl found

pub cell_found : (depth : PixelDepth) (n cell : ℕ) (tiles : List (ℕ × PixelTile)) (t : PixelTile) → AreOfOrder3 depth n tiles → Some t ≡ value_at cell tiles → cell < 768
cell_found depth n cell tiles t are found = key_of_found cell tiles t are.cells found

-- and the shape of all
shape_of_found : (depth : PixelDepth) (n : ℕ) (v : Option PixelTile) (t : PixelTile) → IfSome v (λ t. HasShape t depth n) → Some t ≡ v → HasShape t depth n
shape_of_found depth n None t holds found = cc
shape_of_found depth n (Some v) t holds found = let same : v ≡ t = cc in let P : PixelTile → Type 0 = λ x. HasShape x depth n in subst P same holds

pub shape_found : (depth : PixelDepth) (n cell : ℕ) (tiles : List (ℕ × PixelTile)) (t : PixelTile) → AreOfOrder3 depth n tiles → Some t ≡ value_at cell tiles → HasShape t depth n
shape_found depth n cell tiles t are found = shape_of_found depth n (value_at cell tiles) t (IfSome-lookup_from_All (λ t. HasShape t depth n) (is_at (nat_cmp cell)) tiles are.shapes) found

-- a tile that is there shows its cell
pub tile_shows : (shape : PyramidShape) (leaves : LeafMap) (depth : PixelDepth) (n cell : ℕ) (tiles : List (ℕ × PixelTile)) (t : PixelTile) → IsSurvey depth n shape → ShowCells shape leaves tiles → cell < 768 → Some t ≡ value_at cell tiles
    → ShowsSquare shape leaves cell n (pixel_in t)
tile_shows shape leaves depth n cell tiles t survey show h found =
    let P : Option PixelTile → Type 0 = λ v. ShowsSquare shape leaves cell shape.n (pixel_or_blank shape.depth.blank v) in
    let at : ShowsSquare shape leaves cell shape.n (pixel_or_blank shape.depth.blank (Some t)) = subst P (sym found) (show cell h) in
    let Q : ℕ → Type 0 = λ k. ShowsSquare shape leaves cell k (pixel_in t) in
    subst Q survey.n_is (λ column line column_in line_in. at column line column_in line_in)

-- the pixels of a place with no tile are blank
pub none_shown : (shape : PyramidShape) (leaves : LeafMap) (depth : PixelDepth) (n cell : ℕ) (tiles : List (ℕ × PixelTile)) (column line : ℕ) → n ≤ 9 → IsSurvey depth n shape → ShowCells shape leaves tiles → None ≡ value_at cell tiles
    → column < side_of n → line < side_of n → depth.blank ≡ place_pixel shape leaves cell column line
none_shown shape leaves depth n cell tiles column line small survey show absent column_in line_in =
    let n_is : shape.n ≡ n = survey.n_is in
    let blank : depth.blank ≡ shape.depth.blank = ap (λ (d : PixelDepth). d.blank) (sym survey.depth_is) in
    elim (cases_lt cell 768) [
      | inl h ↦
          let P : Option PixelTile → Type 0 = λ v. ShowsSquare shape leaves cell shape.n (pixel_or_blank shape.depth.blank v) in
          let at : ShowsSquare shape leaves cell shape.n (pixel_or_blank shape.depth.blank None) = subst P (sym absent) (show cell h) in
          let above = blank_above shape leaves cell shape.n (cell_levels shape.n) (omega arith) (omega arith) refl survey.top (λ column line column_in line_in. at column line column_in line_in) in
          blank ∙ above column line (rw n_is column_in) (rw n_is line_in) ∙ sym (place_in shape leaves cell column line h)
      | inr past ↦ blank ∙ sym (place_past shape leaves cell column line past)
    ]

-- those of one with a tile are its square's
pub some_shown : (shape : PyramidShape) (leaves : LeafMap) (depth : PixelDepth) (n cell bits col t column : ℕ) (band : List ℕ) → IsSurvey depth n shape → cell < 768
    → ShowsSquare shape leaves cell (cell_levels n) (λ column line. band_number bits (side_of n) band col (side_of n - 1 - line) column) → t < side_of n → column < side_of n
    → band_number bits (side_of n) band col t column ≡ place_pixel shape leaves cell column (side_of n - 1 - t)
some_shown shape leaves depth n cell bits col t column band survey h shows t_in column_in =
    let back : side_of n - 1 - (side_of n - 1 - t) ≡ t = omega arith in
    ap (λ (k : ℕ). band_number bits (side_of n) band col k column) (sym back) ∙ shows column (side_of n - 1 - t) column_in (omega arith)
    ∙ ap (λ (k : ℕ). value shape leaves (3 + cell_levels k) (cell * 4 ^ cell_levels k + z_order column (side_of n - 1 - t))) (sym survey.n_is)
    ∙ sym (place_in shape leaves cell column (side_of n - 1 - t) h)

-- one square more is written
pub cells_more : (side col : ℕ) (old new wanted : ℕ → ℕ → ℕ → ℤ) → col < 27 → ((t other column : ℕ) → t < side → other < 27 → other ≢ col → column < side → new other t column ≡ old other t column)
    → ((t column : ℕ) → t < side → column < side → new col t column ≡ wanted col t column)
    → ((other t column : ℕ) → other < col → t < side → column < side → old other t column ≡ wanted other t column)
    → (other t column : ℕ) → other < col + 1 → t < side → column < side → new other t column ≡ wanted other t column
cells_more side col old new wanted room kept now done other t column other_in t_in column_in =
    elim (cases_lt other col) [
      | inl before ↦ let apart : other ≢ col = omega arith in kept t other column t_in (omega arith) apart column_in ∙ done other t column before t_in column_in
      | inr here ↦ let same : other ≡ col = omega arith in ap (λ (k : ℕ). new k t column) same ∙ now t column t_in column_in ∙ ap (λ (k : ℕ). wanted k t column) (sym same)
    ]
