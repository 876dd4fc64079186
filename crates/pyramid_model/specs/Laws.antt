-- Laws of the definitions, each the whole contract of a function of `laws`.
use Rattle.std.specs.Prelude.{◌≡◌, ℕ, ◌+◌, ◌*◌, ◌/◌, ◌%◌, ◌^◌, ◌<◌, ◌≤◌, ◌||◌, true, false, List, [], ◌∷◌, ℤ, length, All, Some, None, is_some, slice_get}
use Rattle.healpix_nested.specs.Cells.{lies_under}
use Rattle.parent_rule.specs.Combined.{combined}
use Rattle.parent_rule.specs.Depth.{IsNumber}
use Rattle.pyramid_model.specs.Shape.{PyramidShape, LeafMap, FitsShape, leaf_numbers}
use Rattle.pyramid_model.specs.Value.{value, pixel_of}
use Rattle.pyramid_model.specs.Tile.{exists, pixel_at, pixels}

-- a cell is blank where no pixel under it has a leaf, and a tile that does not exist is blank throughout
pub record BlankWithoutLeaves : Type 0 where
  pub cell : (shape : PyramidShape) (leaves : LeafMap) (j q : ℕ) → j ≤ shape.top + shape.n →
      ((pixel : ℕ) → lies_under (shape.top + shape.n) pixel j q ≡ true → leaf_numbers leaves (pixel / 4 ^ shape.n) ≡ None) →
      value shape leaves j q ≡ shape.depth.blank
  pub tile : (shape : PyramidShape) (leaves : LeafMap) (k p : ℕ) → k ≤ shape.top → exists shape leaves k p ≡ false →
      All (λ v. v ≡ shape.depth.blank) (pixels shape leaves k p)

-- a tile of the leaves' order exists where its leaf is there, and a tile above where one of its four children does
pub record TilesExistAboveLeaves : Type 0 where
  pub leaf : (shape : PyramidShape) (leaves : LeafMap) (p : ℕ) → exists shape leaves shape.top p ≡ is_some (leaf_numbers leaves p)
  pub above : (shape : PyramidShape) (leaves : LeafMap) (k p : ℕ) → k < shape.top → exists shape leaves k p ≡
      (exists shape leaves (k + 1) (4 * p) || exists shape leaves (k + 1) (4 * p + 1) ||
      exists shape leaves (k + 1) (4 * p + 2) || exists shape leaves (k + 1) (4 * p + 3))

-- a cell of the pixels' order is its pixel, and a cell above is combined of its four children
pub record ValuesAreOfTheirChildren : Type 0 where
  pub pixel : (shape : PyramidShape) (leaves : LeafMap) (q : ℕ) →
      value shape leaves (shape.top + shape.n) q ≡ pixel_of shape (leaf_numbers leaves (q / 4 ^ shape.n)) (q % 4 ^ shape.n)
  pub above : (shape : PyramidShape) (leaves : LeafMap) (j q : ℕ) → j < shape.top + shape.n → value shape leaves j q ≡
      combined shape.depth.combine shape.depth.blank (value shape leaves (j + 1) (4 * q) ∷ value shape leaves (j + 1) (4 * q + 1) ∷
      value shape leaves (j + 1) (4 * q + 2) ∷ value shape leaves (j + 1) (4 * q + 3) ∷ [])

-- a tile has 4^n stored numbers, each the value of the cell at its place, and that of a leaf has the leaf's own
pub record TilesShowTheirCells : Type 0 where
  pub count : (shape : PyramidShape) (leaves : LeafMap) (k p : ℕ) → length (pixels shape leaves k p) ≡ 4 ^ shape.n
  pub entry : (shape : PyramidShape) (leaves : LeafMap) (k p s : ℕ) → s < 4 ^ shape.n →
      slice_get (pixels shape leaves k p) s ≡ Some (pixel_at shape leaves k p s)
  pub leaf : (shape : PyramidShape) (leaves : LeafMap) (p : ℕ) (numbers : List ℤ) → shape.n ≤ 9 →
      leaf_numbers leaves p ≡ Some numbers → length numbers ≡ 4 ^ shape.n → pixels shape leaves shape.top p ≡ numbers

-- where the blank number and those of the leaves are numbers of the depth, so is each value
abbrev pub ValuesAreNumbers : Type 0
ValuesAreNumbers = (shape : PyramidShape) (leaves : LeafMap) (j q : ℕ) → IsNumber shape.depth.bitpix shape.depth.blank →
    FitsShape shape leaves → IsNumber shape.depth.bitpix (value shape leaves j q)
