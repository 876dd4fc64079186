-- Worked examples of the definitions: the stored numbers of tiles of two columns and two lines.
use Rattle.std.proofs.Common.{◌≡◌, ℕ, [], ◌∷◌, refl, ℤ, pos, negsuc}
use Rattle.healpix_nested.specs.Place.{spread, gathered}
use Rattle.parent_rule.specs.Combined.{combined}
use Rattle.parent_rule.specs.declared.combine.Combine.{Combine}
use Rattle.parent_rule.specs.declared.combine.Combine.TheVariants.{Mean, Median}
use Rattle.pyramid_model.specs.Shape.{PyramidShape, LeafMap}
use Rattle.pyramid_model.specs.Value.{value_above}
use Rattle.pyramid_model.specs.Tile.{pixels}

-- the least number of 16 bits
abbrev blank : ℤ
blank = negsuc 32767

-- leaves of that order, of four numbers of 16 bits
abbrev shape_of : ℕ → Combine → PyramidShape
shape_of top combine = record { top = top; low = 3; n = 1; depth = record { bitpix = 16; blank = blank; combine = combine } }

-- leaf 0 alone, and leaf 1 alone
abbrev leaf_0 : LeafMap
leaf_0 = (0, pos 1 ∷ pos 2 ∷ pos 3 ∷ pos 5 ∷ []) ∷ []

abbrev leaf_1 : LeafMap
leaf_1 = (1, pos 7 ∷ pos 7 ∷ pos 7 ∷ pos 7 ∷ []) ∷ []

-- four leaves, whose means are 2, 2, 1 and 1
abbrev four_leaves : LeafMap
four_leaves = (0, pos 1 ∷ pos 1 ∷ pos 2 ∷ pos 2 ∷ []) ∷ (1, pos 1 ∷ pos 1 ∷ pos 2 ∷ pos 2 ∷ []) ∷ (2, pos 1 ∷ pos 1 ∷ pos 1 ∷ pos 2 ∷ []) ∷ (3, pos 1 ∷ pos 1 ∷ pos 1 ∷ pos 2 ∷ []) ∷ []

-- the tile of a leaf shows the leaf
pub at_leaf_0 : pixels (shape_of 4 Mean) leaf_0 4 0 ≡ pos 1 ∷ pos 2 ∷ pos 3 ∷ pos 5 ∷ []
unfolding pixels value_above combined spread gathered
at_leaf_0 = refl

-- leaf 0 is at the top left of the tile above, in the line that is stored last
pub above_leaf_0 : pixels (shape_of 4 Mean) leaf_0 3 0 ≡ blank ∷ blank ∷ pos 3 ∷ blank ∷ []
unfolding pixels value_above combined spread gathered
above_leaf_0 = refl

-- the same by the lower median
pub median_above_leaf_0 : pixels (shape_of 4 Median) leaf_0 3 0 ≡ blank ∷ blank ∷ pos 2 ∷ blank ∷ []
unfolding pixels value_above combined spread gathered
median_above_leaf_0 = refl

-- leaf 1 is below it, in the line that is stored first
pub above_leaf_1 : pixels (shape_of 4 Mean) leaf_1 3 0 ≡ pos 7 ∷ blank ∷ blank ∷ blank ∷ []
unfolding pixels value_above combined spread gathered
above_leaf_1 = refl

-- means are taken order by order: that of all sixteen numbers would be 1
pub order_by_order : pixels (shape_of 5 Mean) four_leaves 3 0 ≡ blank ∷ blank ∷ pos 2 ∷ blank ∷ []
unfolding pixels value_above combined spread gathered
order_by_order = refl
