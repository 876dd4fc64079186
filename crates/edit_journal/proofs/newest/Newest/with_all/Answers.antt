use Rattle.std.proofs.Common.{◌≡◌, ◌+◌, ◌≤◌, ◌++◌, map, take, length, refl, ap, ◌∙◌, arith}
use Rattle.std.specs.Prelude.{◌==◌}
use Rattle.std.proofs.lemmas.List.{length-map, take_all}
use Rattle.edit_journal.specs.Edit.{edit_of}
use Rattle.edit_journal.specs.Kept.{noted}
use Rattle.edit_journal.proofs.BatchLemmas.{length-noted}
use Rattle.edit_journal.proofs.StepLemmas.{next_notes, next_leaves, next_charge, room_for_note, room_for_charge}
use Rattle.edit_journal.proofs.newest.Newest.with_all.Goals as goal

pub with-requires-clause-count : goal.with-requires-clause-count
with-requires-clause-count c =
    room_for_note c.args.batch.now c.loop-i.i c.index-batch-i.result c.in_ok-clone.field-0 c.loop-i-test.true c.index-batch-i.is c.in_ok-clone.ensures.cases
    c.args.self.notes c.loop-i.newest.notes c.loop-i.invariant.notes c.requires.count

pub with-requires-clause-charge : goal.with-requires-clause-charge
with-requires-clause-charge c =
    room_for_charge c.args.batch.now c.loop-i.i c.index-batch-i.result c.in_ok-clone.field-0 c.loop-i-test.true c.index-batch-i.is c.in_ok-clone.ensures.cases
    c.args.self.charge c.loop-i.newest.charge c.loop-i.invariant.charge c.requires.charge

pub loop-i-preserved : goal.loop-i-preserved
loop-i-preserved c = record {
  notes = next_notes c.args.batch.now c.loop-i.i c.index-batch-i.result c.in_ok-clone.field-0 c.loop-i-test.true c.index-batch-i.is c.in_ok-clone.ensures.cases
      c.args.self.notes c.loop-i.newest.notes c.in_ok-newest.newest.notes (c.loop-i.i + 1 == length c.args.batch.now) c.loop-i.invariant.notes refl c.in_ok-newest.ensures.notes;
  leaves = next_leaves c.args.batch.now c.loop-i.i c.index-batch-i.result c.in_ok-clone.field-0 c.loop-i-test.true c.index-batch-i.is c.in_ok-clone.ensures.cases
      c.args.self.leaves c.loop-i.newest.leaves c.in_ok-newest.newest.leaves c.loop-i.invariant.leaves c.in_ok-newest.ensures.leaves;
  charge = next_charge c.args.batch.now c.loop-i.i c.index-batch-i.result c.in_ok-clone.field-0 c.loop-i-test.true c.index-batch-i.is c.in_ok-clone.ensures.cases
      c.args.self.charge c.loop-i.newest.charge c.in_ok-newest.newest.charge c.loop-i.invariant.charge c.in_ok-newest.ensures.charge;
}

pub returns-clause-notes : goal.returns-clause-notes
returns-clause-notes c =
    let past : length c.args.batch.now ≤ c.loop-i.i = c.loop-i-test.false in
    let all : take c.loop-i.i (noted (map edit_of c.args.batch.now)) ≡ noted (map edit_of c.args.batch.now) =
    take_all c.loop-i.i (noted (map edit_of c.args.batch.now)) (omega (arith, length-noted (map edit_of c.args.batch.now), length-map c.args.batch.now edit_of)) in
    c.loop-i.invariant.notes ∙ ap (λ xs. c.args.self.notes ++ xs) all
