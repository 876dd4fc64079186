-- How many tiles a generation merges.
use Rattle.std.specs.Prelude.{ℕ, ◌-◌, List, map, length, take, drop, sum_by}
use Rattle.pyramid_model.specs.Shape.{PyramidShape, LeafMap}
use Rattle.dirty_plan.specs.Dirty.{orders_down}
use Rattle.edit_journal.specs.Edit.{LeafEdit, leaf_of}
use Rattle.generation.specs.Files.{existing}

-- how many tiles exist above the leaves, down to the lowest order
unfoldable pub tiles_above : PyramidShape → LeafMap → ℕ
tiles_above shape leaves = sum_by (λ order. length (existing shape leaves order)) (orders_down shape.top shape.low)

-- the edits with places i to j - 1
abbrev pub edits_between : List LeafEdit → ℕ → ℕ → List LeafEdit
edits_between edits i j = take (j - i) (drop i edits)

-- the leaves that they are of
abbrev pub touched : List LeafEdit → ℕ → ℕ → List ℕ
touched edits i j = map leaf_of (edits_between edits i j)
