use Rattle.std.proofs.Common.{◌≡◌, ℕ, ◌+◌, ◌-◌, ◌^◌, ◌<◌, ◌++◌, min, map, take, length, Some, None, refl, sym, ap, ◌∙◌, arith, below_more}
use Rattle.std.specs.Prelude.{slice_get}
use Rattle.std.specs.Option.{option_or}
use Rattle.std.proofs.lemmas.List.{length-map}
use Rattle.std.proofs.lemmas.Option.{slice_get_read}
use Rattle.edit_journal.specs.Edit.{edit_of, leaf_of}
use Rattle.edit_journal.specs.Leaves.{leaves_of, charge_of, edit_charge}
use Rattle.edit_journal.specs.Faults.{most_edits, has_leaf, leaf_fault, limit_fault, item_fault}
use Rattle.edit_journal.specs.Journal.{journal_edits}
use Rattle.edit_journal.proofs.FaultLemmas.{batch_fault_none, batch_fault_at}
use Rattle.edit_journal.proofs.CheckLemmas.{judged, room}
use Rattle.edit_journal.proofs.journal.Journal.check_all.Goals as goal

pub returns-in-Err : goal.returns-in-Err
returns-in-Err c =
    let place : c.loop-at.at < length c.args.edits.now = c.loop-at-test.true in
    let found : slice_get c.args.edits.now c.loop-at.at ≡ Some c.index-edits-at.result =
    slice_get_read c.args.edits.now (length c.args.edits.now) c.loop-at.at c.index-edits-at.result refl place c.index-edits-at.is in
    let there : c.is_there_after-there.result ≡ has_leaf (leaf_of (edit_of c.index-edits-at.result)) (leaves_of c.args.self.now.opening (journal_edits c.args.self.now ++ map edit_of (take c.loop-at.at c.args.edits.now))) =
    c.is_there_after-there.ensures ∙ ap (λ k. has_leaf k (leaves_of c.args.self.now.opening (journal_edits c.args.self.now ++ map edit_of (take c.loop-at.at c.args.edits.now)))) c.leaf.ensures in
    let charge : c.saturating_add-charge.result ≡ min (c.loop-at.charge + edit_charge (edit_of c.index-edits-at.result)) (2 ^ 64 - 1) =
    c.saturating_add-charge.ensures ∙ ap (λ n. min (c.loop-at.charge + n) (2 ^ 64 - 1)) c.charge.ensures in
    let item : option_or (leaf_fault c.is_there_after-there.result (edit_of c.index-edits-at.result)) (limit_fault c.loop-at.count c.saturating_add-charge.result) ≡ item_fault c.args.self.now.opening (journal_edits c.args.self.now) (map edit_of c.args.edits.now) c.loop-at.at =
    judged c.args.self.now.opening (journal_edits c.args.self.now) c.args.edits.now c.loop-at.at c.index-edits-at.result c.is_there_after-there.result c.loop-at.count c.loop-at.charge c.saturating_add-charge.result
    found there c.loop-at.invariant.count c.loop-at.invariant.charge charge in
    sym (batch_fault_at c.args.self.now.opening (journal_edits c.args.self.now) (map edit_of c.args.edits.now) c.loop-at.at c.in-Err.fault
    (omega (arith, length-map c.args.edits.now edit_of)) (sym item ∙ sym c.in-Err.ensures) c.loop-at.invariant.accepted)

pub loop-at-preserved : goal.loop-at-preserved
loop-at-preserved c =
    let place : c.loop-at.at < length c.args.edits.now = c.loop-at-test.true in
    let found : slice_get c.args.edits.now c.loop-at.at ≡ Some c.index-edits-at.result =
    slice_get_read c.args.edits.now (length c.args.edits.now) c.loop-at.at c.index-edits-at.result refl place c.index-edits-at.is in
    let there : c.is_there_after-there.result ≡ has_leaf (leaf_of (edit_of c.index-edits-at.result)) (leaves_of c.args.self.now.opening (journal_edits c.args.self.now ++ map edit_of (take c.loop-at.at c.args.edits.now))) =
    c.is_there_after-there.ensures ∙ ap (λ k. has_leaf k (leaves_of c.args.self.now.opening (journal_edits c.args.self.now ++ map edit_of (take c.loop-at.at c.args.edits.now)))) c.leaf.ensures in
    let charge : c.saturating_add-charge.result ≡ min (c.loop-at.charge + edit_charge (edit_of c.index-edits-at.result)) (2 ^ 64 - 1) =
    c.saturating_add-charge.ensures ∙ ap (λ n. min (c.loop-at.charge + n) (2 ^ 64 - 1)) c.charge.ensures in
    let item : option_or (leaf_fault c.is_there_after-there.result (edit_of c.index-edits-at.result)) (limit_fault c.loop-at.count c.saturating_add-charge.result) ≡ item_fault c.args.self.now.opening (journal_edits c.args.self.now) (map edit_of c.args.edits.now) c.loop-at.at =
    judged c.args.self.now.opening (journal_edits c.args.self.now) c.args.edits.now c.loop-at.at c.index-edits-at.result c.is_there_after-there.result c.loop-at.count c.loop-at.charge c.saturating_add-charge.result
    found there c.loop-at.invariant.count c.loop-at.invariant.charge charge in
    let both : (c.loop-at.count < most_edits) × (c.saturating_add-charge.result ≡ charge_of c.args.self.now.opening (journal_edits c.args.self.now ++ take (c.loop-at.at + 1) (map edit_of c.args.edits.now))) =
    room c.args.self.now.opening (journal_edits c.args.self.now) c.args.edits.now c.loop-at.at c.index-edits-at.result c.is_there_after-there.result c.loop-at.count c.loop-at.charge c.saturating_add-charge.result
    found there c.loop-at.invariant.count c.loop-at.invariant.charge charge (sym c.in_default.ensures) in
    record {
      count = omega arith;
      charge = both.1;
      accepted = below_more (λ k. item_fault c.args.self.now.opening (journal_edits c.args.self.now) (map edit_of c.args.edits.now) k ≡ None) c.loop-at.at c.loop-at.invariant.accepted (sym item ∙ sym c.in_default.ensures);
    }

pub returns : goal.returns
returns c =
    sym (batch_fault_none c.args.self.now.opening (journal_edits c.args.self.now) (map edit_of c.args.edits.now)
    (λ k h. c.loop-at.invariant.accepted k (omega (arith, length-map c.args.edits.now edit_of))))
