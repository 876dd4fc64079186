-- What becomes of a change that a request asks for, by the opening leaves and all edits of a state: it is refused, or it is
-- one batch of edits. Of the precondition fields (RFC 9110, section 13.1) `*` alone has a meaning, since no reply has an
-- entity tag: If-Match says that the leaf is there, If-None-Match that it isn't. This project's profile.
use Rattle.std.specs.Prelude.{ℕ, Bool, List, [], ◌∷◌, Option, Some, None, if◌then◌else◌}
use Rattle.std.specs.Option.{option_map_or}
use Rattle.tile_pixels.specs.Tile.{PixelTile}
use Rattle.http_frame.specs.declared.request.Tags.{Tags}
use Rattle.http_frame.specs.declared.request.Tags.TheVariants.{Absent, Any, Listed}
use Rattle.edit_journal.specs.declared.fault.EditFault.{EditFault}
use Rattle.edit_journal.specs.declared.fault.EditFault.TheVariants as fault
use Rattle.edit_journal.specs.Edit as edit
use Rattle.edit_journal.specs.Edit.{LeafEdit}
use Rattle.edit_journal.specs.Leaves.{LeafTiles, leaves_of}
use Rattle.edit_journal.specs.Faults.{has_leaf, edit_fault, batch_fault, fault_number}

-- what is asked for: PUT and DELETE have their If-Match field, whether an If-None-Match field is `*`, and their leaf
pub data Change : Type 0 where
  put : Tags → Bool → ℕ → PixelTile → Change
  delete : Tags → Bool → ℕ → Change
  batch : List LeafEdit → Change

-- why it is refused: no such leaf to delete, a precondition that is false, or the limit with that number
pub data Cause : Type 0 where
  missing : Cause
  unmet : Cause
  limit : ℕ → Cause

-- it is refused, that of a batch by the edit at this place, or accepted as one batch
pub data Verdict : Type 0 where
  refused : Cause → Verdict
  refused_at : ℕ → Cause → Verdict
  accepted : List LeafEdit → Verdict

-- the precondition is false where the leaf is there or isn't, and a limit is reached if there are too many edits or bytes
abbrev pub cause_of : EditFault → Cause
cause_of fault.Exists = unmet
cause_of fault.Absent = unmet
cause_of fault.Edits = limit (fault_number fault.Edits)
cause_of fault.Bytes = limit (fault_number fault.Bytes)

-- the edit of a PUT by its precondition fields; none where they are false whatever leaves there are
abbrev pub put_edit : Tags → Bool → ℕ → PixelTile → Option LeafEdit
put_edit Listed none_any leaf tile = None
put_edit Any none_any leaf tile = if none_any then None else Some (edit.replace leaf tile)
put_edit Absent none_any leaf tile = Some (if none_any then edit.add leaf tile else edit.put leaf tile)

-- the edit of a DELETE of a leaf that is there
abbrev pub delete_edit : Tags → Bool → ℕ → Option LeafEdit
delete_edit Listed none_any leaf = None
delete_edit Any none_any leaf = if none_any then None else Some (edit.remove leaf)
delete_edit Absent none_any leaf = if none_any then None else Some (edit.remove leaf)

-- what becomes of one edit
abbrev pub edit_verdict : LeafTiles → List LeafEdit → LeafEdit → Verdict
edit_verdict opening edits one = option_map_or (λ found. refused (cause_of found)) (edit_fault opening edits one) (accepted (one ∷ []))

-- what becomes of an edit where there is one, by the precondition fields
abbrev pub fields_verdict : LeafTiles → List LeafEdit → Option LeafEdit → Verdict
fields_verdict opening edits None = refused unmet
fields_verdict opening edits (Some one) = edit_verdict opening edits one

-- what becomes of a batch
abbrev pub batch_verdict : LeafTiles → List LeafEdit → List LeafEdit → Verdict
batch_verdict opening edits items =
    option_map_or (λ found. refused_at found.at (cause_of found.fault)) (batch_fault opening edits items) (accepted items)

-- what becomes of a change after these edits
abbrev pub verdict : LeafTiles → List LeafEdit → Change → Verdict
verdict opening edits (put tags none_any leaf tile) = fields_verdict opening edits (put_edit tags none_any leaf tile)
verdict opening edits (delete tags none_any leaf) =
    if has_leaf leaf (leaves_of opening edits) then fields_verdict opening edits (delete_edit tags none_any leaf) else refused missing
verdict opening edits (batch items) = batch_verdict opening edits items

-- why a DELETE is refused whose preconditions are false, or whose edit has a fault
abbrev pub unmet_cause : Bool → Cause
unmet_cause there = if there then unmet else missing

abbrev pub delete_cause : EditFault → Cause
delete_cause fault.Absent = missing
delete_cause found = cause_of found
