use Rattle.std.proofs.Common.{◌≡◌, ◌+◌, ◌^◌, ◌-◌, min, sym, ap, ◌∙◌, arith}
use Rattle.std.specs.Prelude.{is_some}
use Rattle.std.specs.Arc.{arc_value}
use Rattle.edit_journal.specs.Edit.{edit_of, leaf_of}
use Rattle.edit_journal.specs.Leaves.{leaves_of, charge_of, edit_charge}
use Rattle.edit_journal.specs.Faults.{has_leaf}
use Rattle.edit_journal.specs.Journal.{journal_edits}
use Rattle.edit_journal.proofs.CheckLemmas.{there_is}
use Rattle.edit_journal.proofs.FaultLemmas.{edit_fault_is}
use Rattle.edit_journal.proofs.journal.Journal.check.Goals as goal

pub returns : goal.returns
returns c =
    let there : c.is_some-there.result ≡ has_leaf (leaf_of (edit_of c.args.edit.now)) (leaves_of c.args.self.now.opening (journal_edits c.args.self.now)) =
    c.is_some-there.ensures ∙ there_is (λ found. arc_value found.now) c.get.result c.leaf.result c.leaves.result.now c.get.ensures.value
    ∙ ap (λ k. has_leaf k c.leaves.result.now) c.leaf.ensures ∙ ap (has_leaf (leaf_of (edit_of c.args.edit.now))) c.leaves.ensures.leaves in
    let charge : c.saturating_add-charge.result ≡ min (charge_of c.args.self.now.opening (journal_edits c.args.self.now) + edit_charge (edit_of c.args.edit.now)) (2 ^ 64 - 1) =
    omega (arith, c.charge.ensures.charge, c.charge-2.ensures) in
    c.judge.ensures ∙ edit_fault_is c.args.self.now.opening (journal_edits c.args.self.now) (edit_of c.args.edit.now) c.is_some-there.result c.len.result c.saturating_add-charge.result there c.len.ensures.count charge
