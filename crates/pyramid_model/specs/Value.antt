-- The number of a cell: HiPS 1.0's way of making a tile from the four below it (section 4.2), as a recursion on cell
-- numbers alone.
use Rattle.std.specs.Prelude.{ℕ, zero, suc, ◌+◌, ◌-◌, ◌*◌, ◌/◌, ◌%◌, ◌^◌, List, [], ◌∷◌, ℤ, Option, Some, None, slice_index_or}
use Rattle.healpix_nested.specs.Place.{stored_at_z}
use Rattle.parent_rule.specs.Combined.{combined}
use Rattle.pyramid_model.specs.Shape.{PyramidShape, LeafMap, leaf_numbers}

-- the pixel whose place has this z; blank where the leaf is missing
abbrev pub pixel_of : PyramidShape → Option (List ℤ) → ℕ → ℤ
pixel_of shape None z = shape.depth.blank
pixel_of shape (Some numbers) z = slice_index_or numbers (stored_at_z shape.n z) shape.depth.blank

-- the value of cell q, height orders above the pixels of the leaves
unfoldable pub value_above : PyramidShape → LeafMap → ℕ → ℕ → ℤ
value_above shape leaves zero q = pixel_of shape (leaf_numbers leaves (q / 4 ^ shape.n)) (q % 4 ^ shape.n)
value_above shape leaves (suc height) q = combined shape.depth.combine shape.depth.blank
    (value_above shape leaves height (4 * q) ∷ value_above shape leaves height (4 * q + 1) ∷
    value_above shape leaves height (4 * q + 2) ∷ value_above shape leaves height (4 * q + 3) ∷ [])

-- the value of cell q of order j, from 0 to the order of the leaves' pixels
abbrev pub value : PyramidShape → LeafMap → ℕ → ℕ → ℤ
value shape leaves j q = value_above shape leaves (shape.top + shape.n - j) q
