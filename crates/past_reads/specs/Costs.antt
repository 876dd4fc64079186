-- How many tiles are read and merged.
use Rattle.std.specs.Prelude.{ℕ, ◌+◌, Bool, nat_eq, nat_lt, not, List, ◌∷◌, filter, fold, max, take, Option, Some, None, if◌then◌else◌}
use Rattle.std.specs.List.{list_any}
use Rattle.survey_conf.specs.Description.{Description}
use Rattle.dirty_plan.specs.Dirty.{work}
use Rattle.edit_journal.specs.Edit.{LeafEdit}
use Rattle.edit_journal.specs.Leaves.{LeafTiles}
use Rattle.generation.specs.Files.{leaf_map}
use Rattle.generation.specs.Steps.{tiles_above, touched}

-- the list of held prefixes after k was asked for: k is first, the others keep their order, and the last is dropped where
-- more than `room` would be held
abbrev pub held_after : ℕ → ℕ → List ℕ → List ℕ
held_after room k held = take room (k ∷ filter (λ j. not (nat_eq k j)) held)

abbrev pub greater : Option ℕ → ℕ → Option ℕ
greater None j = Some j
greater (Some best) j = Some (max best j)

-- the prefix whose generation k's is made from: the greatest held one below k; where there is none, 0 if the generation of the
-- opening leaves is kept
abbrev pub base : Bool → ℕ → List ℕ → Option ℕ
base opened k held = fold greater (if opened then Some 0 else None) (filter (λ j. nat_lt j k) held)

-- the tiles above the leaves under which the edits from j to k touched one
abbrev pub work_between : Description → List LeafEdit → ℕ → ℕ → ℕ
work_between d edits j k = work d.shape.top d.shape.low (touched edits j k)

-- all that exist above the opening leaves, and those that the first k edits touched
abbrev pub work_afresh : Description → LeafTiles → List LeafEdit → ℕ → ℕ
work_afresh d opening edits k = tiles_above d.shape (leaf_map opening) + work_between d edits 0 k

abbrev pub work_from : Description → LeafTiles → List LeafEdit → ℕ → Option ℕ → ℕ
work_from d opening edits k (Some j) = work_between d edits j k
work_from d opening edits k None = work_afresh d opening edits k

-- the most steps of asking for k: none where it is held; else from its base, or afresh
abbrev pub past_work : Description → LeafTiles → Bool → List LeafEdit → List ℕ → ℕ → ℕ
past_work d opening opened edits held k = if list_any (nat_eq k) held then 0 else work_from d opening edits k (base opened k held)
