-- Leaves that fit a shape: what is said of each leaf, and of the leaf map as a whole.
use Rattle.std.proofs.Common.{◌≡◌, ℕ, ◌^◌, ◌<◌, List, [], ◌∷◌, length, arith, ℤ}
use Rattle.std.specs.Prelude.{All, Vec}
use Rattle.std.specs.List.Sorted.{IsStrictlySortedBy}
use Rattle.std.specs.Map.{keys_of, values_of}
use Rattle.std.specs.Ordering.{nat_cmp}
use Rattle.std.specs.declared.alloc.Global.{Global}
use Rattle.std.proofs.lemmas.List.Elements.{All-cons, All-head, All-map, All-tail}
use Rattle.std.proofs.lemmas.Map.Made.{keys_of-map_values}
use Rattle.healpix_nested.specs.Cells.{cell_count}
use Rattle.parent_rule.specs.Depth.{IsNumber}
use Rattle.pyramid_model.specs.Leaves.{leaf_map}
use Rattle.pyramid_model.specs.Shape.{PyramidShape, FitsShape, IsLeaf}

-- an ordered map of leaves of the shape fits it
pub fits_from_leaves : (shape : PyramidShape) (es : List (ℕ × Vec ℤ Global)) → IsStrictlySortedBy nat_cmp (keys_of es) → All (λ leaf. IsLeaf shape leaf.0 leaf.1.items) es → FitsShape shape (leaf_map es)
fits_from_leaves shape es ordered all =
    let same_keys = keys_of-map_values (λ v. v.items) es in
    record {
      ordered = rw same_keys ordered;
      cells = rw same_keys (All-map (λ leaf. leaf < cell_count shape.top) (λ e. e.0) es (λ i d h. (all i d h).cell));
      lengths = All-map (λ numbers. length numbers ≡ 4 ^ shape.n) (λ e. e.1) (leaf_map es)
          (All-map (λ e. length e.1 ≡ 4 ^ shape.n) (λ e. (e.0, e.1.items)) es (λ i d h. (all i d h).count));
      numbers = All-map (All (IsNumber shape.depth.bitpix)) (λ e. e.1) (leaf_map es)
          (All-map (λ e. All (IsNumber shape.depth.bitpix) e.1) (λ e. (e.0, e.1.items)) es (λ i d h. (all i d h).of_depth));
    }

-- and a map that fits has such leaves alone
pub each_leaf : (shape : PyramidShape) (es : List (ℕ × Vec ℤ Global)) → All (λ leaf. leaf < cell_count shape.top) (keys_of (leaf_map es))
    → All (λ numbers. length numbers ≡ 4 ^ shape.n) (values_of (leaf_map es)) → All (All (IsNumber shape.depth.bitpix)) (values_of (leaf_map es))
    → All (λ leaf. IsLeaf shape leaf.0 leaf.1.items) es
each_leaf shape [] cells lengths numbers = λ i d h. absurd (omega arith)
each_leaf shape (e ∷ es) cells lengths numbers =
    All-cons (λ leaf. IsLeaf shape leaf.0 leaf.1.items) e es
    (record {
      cell = All-head (λ leaf. leaf < cell_count shape.top) e.0 (keys_of (leaf_map es)) cells;
      count = All-head (λ ns. length ns ≡ 4 ^ shape.n) e.1.items (values_of (leaf_map es)) lengths;
      of_depth = All-head (All (IsNumber shape.depth.bitpix)) e.1.items (values_of (leaf_map es)) numbers;
    })
    (each_leaf shape es
    (All-tail (λ leaf. leaf < cell_count shape.top) e.0 (keys_of (leaf_map es)) cells)
    (All-tail (λ ns. length ns ≡ 4 ^ shape.n) e.1.items (values_of (leaf_map es)) lengths)
    (All-tail (All (IsNumber shape.depth.bitpix)) e.1.items (values_of (leaf_map es)) numbers))
