-- What a survey's pyramid is built over.
use Rattle.std.specs.Prelude.{◌≡◌, ℕ, ◌^◌, ◌<◌, ◌≤◌, List, ℤ, length, Option, All}
use Rattle.std.specs.List.Sorted.{IsStrictlySortedBy}
use Rattle.std.specs.Ordering.{nat_cmp}
use Rattle.std.specs.Map.{lookup, keys_of, values_of}
use Rattle.std.specs.BTreeMap.{is_at}
use Rattle.healpix_nested.specs.Cells.{cell_count}
use Rattle.parent_rule.specs.Depth.{PixelDepth, IsNumber}

-- the order of the leaves, the lowest order of a tile, n of the 2^n columns and lines of a tile, and what the stored
-- numbers are
pub record PyramidShape : Type 0 where
  pub top : ℕ
  pub low : ℕ
  pub n : ℕ
  pub depth : PixelDepth

-- the shapes that a survey may have
pub record IsShape (top low n : ℕ) : Type 0 where
  pub low_order : low ≤ 3
  pub least_top : 3 ≤ top
  pub greatest_top : top ≤ 11
  pub least_n : 1 ≤ n
  pub greatest_n : n ≤ 9

-- a finite map from the numbers of leaf tiles to their stored numbers: its pairs, by ascending leaf number
abbrev pub LeafMap : Type 0
LeafMap = List (ℕ × List ℤ)

-- the stored numbers of a leaf, where the map has it
abbrev pub leaf_numbers : LeafMap → ℕ → Option (List ℤ)
leaf_numbers leaves leaf = lookup (is_at (nat_cmp leaf)) leaves

-- the map fits the shape: leaves of its order, each of 4^n numbers of its depth
pub record FitsShape (shape : PyramidShape) (leaves : LeafMap) : Type 0 where
  pub ordered : IsStrictlySortedBy nat_cmp (keys_of leaves)
  pub cells : All (λ leaf. leaf < cell_count shape.top) (keys_of leaves)
  pub lengths : All (λ numbers. length numbers ≡ 4 ^ shape.n) (values_of leaves)
  pub numbers : All (All (IsNumber shape.depth.bitpix)) (values_of leaves)

-- a leaf that may stand in such a map
pub record IsLeaf (shape : PyramidShape) (leaf : ℕ) (numbers : List ℤ) : Type 0 where
  pub cell : leaf < cell_count shape.top
  pub count : length numbers ≡ 4 ^ shape.n
  pub of_depth : All (IsNumber shape.depth.bitpix) numbers
