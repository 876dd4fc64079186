use Rattle.std.proofs.Common.{◌≡◌, ◌+◌, ◌++◌, map, take}
use Rattle.std.specs.Prelude.{fold, sum_by}
use Rattle.edit_journal.specs.Edit.{edit_of}
use Rattle.edit_journal.specs.Leaves.{leaves_after, edit_charge}
use Rattle.edit_journal.specs.Kept.{noted}
use Rattle.edit_journal.proofs.newest.Newest.with_all.Given as goal

abbrev pub invariant-loop-i : goal.invariant-loop-i
invariant-loop-i l = record {
  notes : l.newest.notes ≡ l.initial.newest.notes ++ take l.i (noted (map edit_of l.batch));
  leaves : l.newest.leaves ≡ fold leaves_after l.initial.newest.leaves (take l.i (map edit_of l.batch));
  charge : l.newest.charge ≡ l.initial.newest.charge + sum_by edit_charge (take l.i (map edit_of l.batch));
}
