use Rattle.std.proofs.Common.{rules, ℕ, List, Some, sym, ◌∙◌, ap, subst}
use Rattle.std.specs.Arc.{arc_value}
use Rattle.leaf_store.specs.Store.{IsAscending}
use Rattle.leaf_store.specs.Entries.{pairs_of}
use Rattle.leaf_store.specs.Places.{IsFound, IsGap}
use Rattle.leaf_store.specs.Tree.{page_pairs}
use Rattle.leaf_store.proofs.Changed.{ascending-with}
use Rattle.leaf_store.proofs.Pages.{entry_value, entry_key, entry_set, entry_insert, gap_value}
use Rattle.leaf_store.proofs.page.PageChanging.put.Goals as goal

pub returns-in-Ok-clause-old : goal.returns-in-Ok-clause-old
returns-in-Ok-clause-old g c =
    let found : IsFound c.args.key (page_pairs c.args.self.now) c.in-Ok.i = search rules in
    ap (λ value. Some (arc_value value)) c.replace.ensures.value ∙ sym (entry_value c.args.key c.args.self.now.pairs.items c.in-Ok.i c.index_mut-pair.result.now found c.index_mut-pair.ensures.value)

pub returns-in-Ok-clause-put : goal.returns-in-Ok-clause-put
returns-in-Ok-clause-put g c =
    let found : IsFound c.args.key (page_pairs c.args.self.now) c.in-Ok.i = search rules in
    entry_set c.args.key c.args.value c.args.self.now.pairs.items c.in-Ok.i (c.index_mut-pair.result.now.0, c.replace.new.dest) found
    (entry_key c.args.key c.args.self.now.pairs.items c.in-Ok.i c.index_mut-pair.result.now found c.index_mut-pair.ensures.value) c.replace.ensures.after

pub returns-in-Ok-clause-sound : goal.returns-in-Ok-clause-sound
returns-in-Ok-clause-sound g c =
    let P : List (ℕ × g.row.T.Denot) → Type 0 = λ l. IsAscending l in
    subst P (sym (returns-in-Ok-clause-put g c)) (ascending-with c.args.key (arc_value c.args.value) (page_pairs c.args.self.now) c.requires.sound)

pub returns-in_ok-insert-in-Err-clause-old : goal.returns-in_ok-insert-in-Err-clause-old
returns-in_ok-insert-in-Err-clause-old g c =
    let gap : IsGap c.args.key (page_pairs c.args.self.now) c.in-Err.i = search rules in
    sym (gap_value c.args.key (page_pairs c.args.self.now) c.in-Err.i gap)

pub returns-in_ok-insert-in-Err-clause-put : goal.returns-in_ok-insert-in-Err-clause-put
returns-in_ok-insert-in-Err-clause-put g c =
    let gap : IsGap c.args.key (page_pairs c.args.self.now) c.in-Err.i = search rules in
    ap pairs_of c.in_ok-insert-in-Err.ensures.items ∙ entry_insert c.args.key c.args.value c.args.self.now.pairs.items c.in-Err.i gap

pub returns-in_ok-insert-in-Err-clause-sound : goal.returns-in_ok-insert-in-Err-clause-sound
returns-in_ok-insert-in-Err-clause-sound g c =
    let P : List (ℕ × g.row.T.Denot) → Type 0 = λ l. IsAscending l in
    subst P (sym (returns-in_ok-insert-in-Err-clause-put g c)) (ascending-with c.args.key (arc_value c.args.value) (page_pairs c.args.self.now) c.requires.sound)
