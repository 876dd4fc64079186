-- Laws of edits, each the whole contract of a function of `laws`.
use Rattle.std.specs.Prelude.{◌≡◌, ◌≢◌, ℕ, ◌+◌, List, ◌++◌, All, sum_by}
use Rattle.pyramid_model.specs.Shape.{PyramidShape}
use Rattle.leaf_store.specs.Store.{value_at}
use Rattle.edit_journal.specs.Edit.{LeafEdit, leaf_of}
use Rattle.edit_journal.specs.Leaves.{LeafTiles, leaves_of, charge_of, edit_charge, FitsLeaves, FitsEdit}

-- more edits go on from what the edits before them leave
pub record EditsGoOn : Type 0 where
  pub leaves : (opening : LeafTiles) (edits more : List LeafEdit) → leaves_of opening (edits ++ more) ≡ leaves_of (leaves_of opening edits) more
  pub charge : (opening : LeafTiles) (edits more : List LeafEdit) → charge_of opening (edits ++ more) ≡ charge_of opening edits + sum_by edit_charge more

-- edits that fit the shape keep leaves that do
abbrev pub EditsKeepTheShape : Type 0
EditsKeepTheShape = (shape : PyramidShape) (opening : LeafTiles) (edits : List LeafEdit) → FitsLeaves shape opening → All (FitsEdit shape) edits →
    FitsLeaves shape (leaves_of opening edits)

-- a leaf that no edit is of stays as it is
abbrev pub EditsTouchTheirLeaves : Type 0
EditsTouchTheirLeaves = (leaf : ℕ) (opening : LeafTiles) (edits : List LeafEdit) → All (λ edit. leaf_of edit ≢ leaf) edits →
    value_at leaf (leaves_of opening edits) ≡ value_at leaf opening
