use Rattle.std.proofs.Common.{◌≡◌, ◌+◌, ◌-◌, ◌≤◌, map, length}
use Rattle.dirty_plan.specs.Dirty.{steps_after}
use Rattle.edit_journal.specs.Edit.{edit_of}
use Rattle.survey_core.specs.BatchBody.{batch_entries, read_so_far, tiles_of}
use Rattle.survey_core.proofs.batch.read_batch.Given as goal

abbrev pub invariant-loop-left : goal.invariant-loop-left
invariant-loop-left l = record {
  so_far : read_so_far l.conf (map edit_of l.edits.items) l.left ≡ batch_entries l.conf l.body;
  most : length l.edits.items ≤ 1024;
  exactly : l.steps ≡ steps_after l.fn.steps (tiles_of (map edit_of l.edits.items));
  counted : l.steps ≤ l.fn.steps + tiles_of (map edit_of l.edits.items);
  never_falls : l.fn.steps ≤ l.steps;
}

abbrev pub decreases-loop-left : goal.decreases-loop-left
decreases-loop-left l = 1024 - length l.edits.items
