use Rattle.std.proofs.Common.{◌≡◌, ◌≢◌, ℕ, ◌+◌, ◌-◌, ◌<◌, ◌≤◌, Some, map, length, drop, refl, sym, ap, ◌∙◌, subst, arith, inl, inr}
use Rattle.std.specs.Prelude.{slice_get, All}
use Rattle.std.specs.Arc.{arc_value}
use Rattle.std.proofs.lemmas.Option.{slice_get_read, same_Some}
use Rattle.edit_journal.specs.declared.edit.Edit.{Edit}
use Rattle.edit_journal.specs.Edit.{LeafEdit, edit_of, leaf_of}
use Rattle.edit_journal.specs.Faults.{has_leaf}
use Rattle.edit_journal.specs.Journal.{journal_edits}
use Rattle.edit_journal.proofs.FirstLemmas.{first_or_above}
use Rattle.edit_journal.proofs.LeafLemmas.{has_of_none}
use Rattle.edit_journal.proofs.CheckLemmas.{has_at, there_is, all_after}
use Rattle.edit_journal.proofs.journal.Journal.is_there_after.Goals as goal

pub returns-then-leaf : goal.returns-then-leaf
returns-then-leaf c =
    let found : slice_get c.args.first.now (c.loop-i.i - 1) ≡ Some c.index-first-i.result =
    slice_get_read c.args.first.now (length c.args.first.now) (c.loop-i.i - 1) c.index-first-i.result refl (omega arith) c.index-first-i.is in
    c.is_some.ensures ∙ has_at (λ tile. arc_value tile.now) c.tile.result c.args.self.now.opening (journal_edits c.args.self.now) c.args.leaf c.args.first.now (c.loop-i.i - 1) c.index-first-i.result
    c.leaves-leaves.ensures.journal.opening.ascending found (sym c.leaf.ensures ∙ c.if-leaf.true)
    (λ k e h. c.loop-i.invariant k e (omega arith)) c.tile.ensures

pub loop-i-preserved : goal.loop-i-preserved
loop-i-preserved c = λ k e h found.
    let here : slice_get c.args.first.now (c.loop-i.i - 1) ≡ Some c.index-first-i.result =
    slice_get_read c.args.first.now (length c.args.first.now) (c.loop-i.i - 1) c.index-first-i.result refl (omega arith) c.index-first-i.is in
    elim (first_or_above (c.loop-i.i - 1) k h) [
      | inl same ↦
          let one : e ≡ c.index-first-i.result = same_Some e c.index-first-i.result (sym found ∙ ap (slice_get c.args.first.now) (sym same) ∙ here) in
          λ at. c.if-leaf.false (c.leaf.ensures ∙ ap (λ edit. leaf_of (edit_of edit)) (sym one) ∙ at)
      | inr above ↦ c.loop-i.invariant k e (omega arith) found
    ]

pub returns : goal.returns
returns c =
    let all : All (λ edit. leaf_of edit ≢ c.args.leaf) (map edit_of (drop 0 c.args.first.now)) =
    all_after (λ edit. leaf_of edit ≢ c.args.leaf) 0 c.args.first.now (λ k e h. c.loop-i.invariant k e (omega arith)) in
    c.is_some-2.ensures ∙ there_is (λ found. arc_value found.now) c.get.result c.args.leaf c.leaves-leaves.result.now c.get.ensures.value
    ∙ ap (has_leaf c.args.leaf) c.leaves-leaves.ensures.leaves ∙ sym (has_of_none c.args.leaf c.args.self.now.opening (journal_edits c.args.self.now) (map edit_of c.args.first.now) all)
