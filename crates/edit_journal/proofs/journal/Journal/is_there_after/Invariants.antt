use Rattle.std.proofs.Common.{◌≡◌, ◌≢◌, ℕ, ◌≤◌, Some}
use Rattle.std.specs.Prelude.{slice_get}
use Rattle.edit_journal.specs.declared.edit.Edit.{Edit}
use Rattle.edit_journal.specs.Edit.{edit_of, leaf_of}
use Rattle.edit_journal.proofs.journal.Journal.is_there_after.Given as goal

abbrev pub invariant-loop-i : goal.invariant-loop-i
invariant-loop-i l = (k : ℕ) (e : Edit) → l.i ≤ k → slice_get l.first k ≡ Some e → leaf_of (edit_of e) ≢ l.leaf
