use Rattle.std.proofs.Common.{◌≡◌, ◌∙◌, ap, subst, take}
use Rattle.edit_journal.specs.Journal.{journal_edits}
use Rattle.edit_journal.specs.Leaves.{leaves_of}
use Rattle.generation.specs.Changes.{AreLeavesOf}
use Rattle.generation.specs.Generation.{GenerationContent}
use Rattle.generation.specs.Steps.{edits_between, touched}
use Rattle.generation.proofs.Changing.{new_leaves, new_fits, new_cells, new_same, new_work}
use Rattle.generation.proofs.generation.Generation.changes_to.Goals as goal

made_of : (c : goal.In_ok-changes) → c.in_ok-changes.changes.leaves ≡ leaves_of c.args.self.now.leaves (edits_between (journal_edits c.args.journal.now) c.args.self.now.prefix c.args.k)
made_of c =
    let edits = journal_edits c.args.journal.now in
    c.in_ok-changes.ensures.leaves
    ∙ ap (λ l. leaves_of l (edits_between edits c.self.inside.prefix c.args.k)) (c.leaves.ensures.leaves ∙ ap (λ (v : GenerationContent). v.leaves) c.self.view_is)
    ∙ ap (λ p. leaves_of c.args.self.now.leaves (edits_between edits p c.args.k)) (ap (λ (v : GenerationContent). v.prefix) c.self.view_is)

leaves_noted : (c : goal.In_ok-changes) → AreLeavesOf (touched (journal_edits c.args.journal.now) c.args.self.now.prefix c.args.k) c.in_ok-changes.changes.touched.items
leaves_noted c =
    subst (λ p. AreLeavesOf (touched (journal_edits c.args.journal.now) p c.args.k) c.in_ok-changes.changes.touched.items) (ap (λ (v : GenerationContent). v.prefix) c.self.view_is) c.in_ok-changes.ensures.touched

all_leaves : (c : goal.In_ok-changes) → c.in_ok-changes.changes.leaves ≡ leaves_of c.args.journal.now.opening (take c.args.k (journal_edits c.args.journal.now))
all_leaves c =
    new_leaves c.edits_go_on.ensures c.args.journal.now.opening c.args.self.now.leaves c.in_ok-changes.changes.leaves (journal_edits c.args.journal.now) c.args.self.now.prefix c.args.k
    c.requires.forward c.requires.holds (made_of c)

pub returns-clause-leaves : goal.returns-clause-leaves
returns-clause-leaves c = all_leaves c

pub returns-clause-fits : goal.returns-clause-fits
returns-clause-fits c =
    new_fits c.edits_keep_the_shape.ensures c.args.journal.now c.args.self.now.conf.shape c.in_ok-changes.changes.leaves c.args.k c.len-count.ensures.journal c.requires.shape (all_leaves c)

pub returns-clause-cells : goal.returns-clause-cells
returns-clause-cells c =
    new_cells c.args.journal.now c.args.self.now.conf.shape c.args.self.now.prefix c.args.k c.in_ok-changes.changes.touched.items c.len-count.ensures.journal c.requires.shape (leaves_noted c)

pub returns-clause-same : goal.returns-clause-same
returns-clause-same c =
    new_same c.edits_touch_their_leaves.ensures c.args.self.now.leaves c.in_ok-changes.changes.leaves (journal_edits c.args.journal.now) c.args.self.now.prefix c.args.k
    c.in_ok-changes.changes.touched.items (made_of c) (leaves_noted c)

pub returns-clause-work : goal.returns-clause-work
returns-clause-work c =
    new_work c.more_touched_is_more_work.ensures c.args.self.now.conf.shape.top c.args.self.now.conf.shape.low
    (touched (journal_edits c.args.journal.now) c.args.self.now.prefix c.args.k) c.in_ok-changes.changes.touched.items (leaves_noted c)
