use Rattle.std.proofs.Common.{◌≡◌, ℕ, ◌+◌, ◌<◌, ◌++◌, None, length, map, take}
use Rattle.edit_journal.specs.Edit.{edit_of}
use Rattle.edit_journal.specs.Leaves.{charge_of}
use Rattle.edit_journal.specs.Faults.{item_fault}
use Rattle.edit_journal.specs.Journal.{journal_edits}
use Rattle.edit_journal.proofs.journal.Journal.check_all.Given as goal

abbrev pub invariant-loop-at : goal.invariant-loop-at
invariant-loop-at l = record {
  count : l.count ≡ length (journal_edits l.self) + l.at;
  charge : l.charge ≡ charge_of l.self.opening (journal_edits l.self ++ take l.at (map edit_of l.edits));
  accepted : (k : ℕ) → k < l.at → item_fault l.self.opening (journal_edits l.self) (map edit_of l.edits) k ≡ None;
}
