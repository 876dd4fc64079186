use Rattle.std.proofs.Common.{◌≡◌, ◌≤◌, subst, arith}
use Rattle.edit_journal.specs.Journal.{journal_edits}
use Rattle.edit_journal.specs.Leaves.{leaves_of}
use Rattle.generation.specs.Changes.{AreLeavesOf}
use Rattle.generation.specs.Steps.{edits_between, touched}
use Rattle.generation.proofs.Edits.{taken_none, taken_more}
use Rattle.generation.proofs.changes.Changes.of.Goals as goal

pub loop-i-init : goal.loop-i-init
loop-i-init c = taken_none (journal_edits c.args.journal.now) c.args.first c.args.leaves.now c.in_ok-after.after c.in_ok-touched.touched.items c.in_ok-after.ensures.same c.in_ok-touched.ensures.items

pub loop-i-preserved : goal.loop-i-preserved
loop-i-preserved c =
    let from : c.args.first ≤ c.loop-i.i = omega arith in
    taken_more (journal_edits c.args.journal.now) c.args.first c.loop-i.i c.args.leaves.now c.loop-i.after c.take_edit.new.leaves c.loop-i.touched.items c.take_edit.new.touched.items from c.loop-i.invariant c.in_ok-take_edit.ensures

pub returns-clause-leaves : goal.returns-clause-leaves
returns-clause-leaves c =
    let at : c.loop-i.i ≡ c.args.end = omega arith in
    subst (λ k. c.loop-i.after ≡ leaves_of c.args.leaves.now (edits_between (journal_edits c.args.journal.now) c.args.first k)) at c.loop-i.invariant.leaves_are

pub returns-clause-tiles : goal.returns-clause-tiles
returns-clause-tiles c all = c.loop-i.invariant.tiles all

pub returns-clause-touched : goal.returns-clause-touched
returns-clause-touched c =
    let at : c.loop-i.i ≡ c.args.end = omega arith in
    subst (λ all. AreLeavesOf all c.in_ok-touched-2.touched.items)
    (subst (λ k. c.loop-i.touched.items ≡ touched (journal_edits c.args.journal.now) c.args.first k) at c.loop-i.invariant.noted_is) c.in_ok-touched-2.ensures.same
