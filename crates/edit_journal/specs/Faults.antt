-- Why an edit, or a batch of edits, isn't accepted.
use Rattle.std.specs.Prelude.{ℕ, ◌^◌, Bool, nat_le, nat_lt, List, [], ◌∷◌, ◌++◌, length, take, slice_get, find, Option, Some, None, is_some, option_map, option_and_then, if◌then◌else◌}
use Rattle.std.specs.Option.{option_or}
use Rattle.std.specs.List.{range_with_len}
use Rattle.leaf_store.specs.Store.{value_at}
use Rattle.edit_journal.specs.declared.fault.EditFault.{EditFault}
use Rattle.edit_journal.specs.declared.fault.EditFault.TheVariants.{Exists, Absent, Edits, Bytes}
use Rattle.edit_journal.specs.declared.fault.BatchFault.{BatchFault}
use Rattle.edit_journal.specs.declared.fault.EditRefusal.{EditRefusal}
use Rattle.edit_journal.specs.declared.fault.EditRefusal.TheVariants.{Fault, OutOfMemory}
use Rattle.edit_journal.specs.declared.fault.BatchRefusal.{BatchRefusal}
use Rattle.edit_journal.specs.declared.fault.BatchRefusal.TheVariants.{Fault as Faulty, OutOfMemory as NoMemory}
use Rattle.edit_journal.specs.Edit.{LeafEdit, put, add, replace, remove, leaf_of}
use Rattle.edit_journal.specs.Leaves.{LeafTiles, leaves_of, charge_of}

-- how many edits are accepted, and the greatest charge
abbrev pub most_edits : ℕ
most_edits = 65536

abbrev pub most_charge : ℕ
most_charge = 2 ^ 29

-- the numbers of the faults
abbrev pub fault_number : EditFault → ℕ
fault_number Exists = 1
fault_number Absent = 2
fault_number Edits = 3
fault_number Bytes = 4

-- whether the map has the leaf
abbrev pub has_leaf : ℕ → LeafTiles → Bool
has_leaf leaf leaves = is_some (value_at leaf leaves)

-- what is wrong with an edit whose leaf is there, or isn't
abbrev pub leaf_fault : Bool → LeafEdit → Option EditFault
leaf_fault there (put leaf tile) = None
leaf_fault there (add leaf tile) = if there then Some Exists else None
leaf_fault there (replace leaf tile) = if there then None else Some Absent
leaf_fault there (remove leaf) = if there then None else Some Absent

-- what is wrong with one edit more after so many, and with that charge then
abbrev pub limit_fault : ℕ → ℕ → Option EditFault
limit_fault count charge = if nat_le most_edits count then Some Edits else (if nat_lt most_charge charge then Some Bytes else None)

-- the first that stands of Exists, Absent, Edits, Bytes, for an edit after the edits
unfoldable pub edit_fault : LeafTiles → List LeafEdit → LeafEdit → Option EditFault
edit_fault opening edits edit =
    option_or (leaf_fault (has_leaf (leaf_of edit) (leaves_of opening edits)) edit) (limit_fault (length edits) (charge_of opening (edits ++ edit ∷ [])))

-- the fault of item i of a batch, after the edits and the items before it
abbrev pub item_fault : LeafTiles → List LeafEdit → List LeafEdit → ℕ → Option EditFault
item_fault opening edits batch i = option_and_then (edit_fault opening (edits ++ take i batch)) (slice_get batch i)

-- the least place of a batch at which there is one, with that fault
unfoldable pub batch_fault : LeafTiles → List LeafEdit → List LeafEdit → Option BatchFault
batch_fault opening edits batch =
    option_and_then (λ at. option_map (λ fault. record { at = at; fault = fault }) (item_fault opening edits batch at))
    (find (λ i. is_some (item_fault opening edits batch i)) (range_with_len 0 (length batch)))

-- the fault of a refusal; out of memory is none
abbrev pub edit_refused : EditRefusal → Option EditFault
edit_refused (Fault fault) = Some fault
edit_refused OutOfMemory = None

abbrev pub batch_refused : BatchRefusal → Option BatchFault
batch_refused (Faulty fault) = Some fault
batch_refused NoMemory = None
