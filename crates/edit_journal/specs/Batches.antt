-- Batches of edits: each is accepted whole, and a prefix that is published ends with one of them.
use Rattle.std.specs.Prelude.{ℕ, ◌+◌, List, map, length, take, flat_map}
use Rattle.std.specs.List.{range_with_len}
use Rattle.edit_journal.specs.Edit.{LeafEdit}

-- the edits of the batches, one after another
unfoldable pub edits_of : List (List LeafEdit) → List LeafEdit
edits_of batches = flat_map (λ batch. batch) batches

-- 0, and for each b the number of edits in the first b batches
unfoldable pub ends : List (List LeafEdit) → List ℕ
ends batches = map (λ b. length (edits_of (take b batches))) (range_with_len 0 (length batches + 1))
