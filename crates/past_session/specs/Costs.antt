-- How many tiles a session reads and merges at most.
use Rattle.std.specs.Prelude.{ℕ, ◌+◌, Bool, false, not, nat_eq, ◌&&◌, List, [], ◌∷◌, Option, Some, None, if◌then◌else◌}
use Rattle.survey_conf.specs.Description.{Description}
use Rattle.edit_journal.specs.Leaves.{LeafTiles}
use Rattle.edit_journal.specs.Batches.{edits_of}
use Rattle.survey_core.specs.BatchBody.{batch_entries, tile_count}
use Rattle.past_frame.specs.Record.{PastRecord, batch, read}
use Rattle.past_reads.specs.Answers.{is_end}
use Rattle.past_reads.specs.Costs.{work_between}
use Rattle.past_session.specs.Answers.{PastState, first_state, state_after}

abbrev pub is_last : Option ℕ → ℕ → Bool
is_last None k = false
is_last (Some last) k = nat_eq last k

-- one for each entry of a batch that has a tile; of a read by whose edits a file is looked for, and that has other edits than
-- the last such read, the tiles above the leaves that its edits touched
abbrev pub record_cost : Description → PastState → PastRecord → ℕ
record_cost d state (batch body) = tile_count (batch_entries d body)
record_cost d state (read k path) = if is_end state.batches k && not (is_last state.last k) then work_between d (edits_of state.batches) 0 k else 0

unfoldable pub cost_from : Description → LeafTiles → PastState → List PastRecord → ℕ
cost_from d opening state [] = 0
cost_from d opening state (first ∷ later) = record_cost d state first + cost_from d opening (state_after d opening state first) later

-- of records from the first on
abbrev pub cost_of : Description → LeafTiles → List PastRecord → ℕ
cost_of d opening records = cost_from d opening first_state records
