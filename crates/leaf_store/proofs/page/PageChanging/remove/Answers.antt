use Rattle.std.proofs.Common.{rules, ℕ, List, sym, ◌∙◌, ap, subst}
use Rattle.leaf_store.specs.Store.{IsAscending}
use Rattle.leaf_store.specs.Entries.{pairs_of}
use Rattle.leaf_store.specs.Places.{IsFound, IsGap}
use Rattle.leaf_store.specs.Tree.{page_pairs}
use Rattle.leaf_store.proofs.Changed.{ascending-without}
use Rattle.leaf_store.proofs.Pages.{entry_value, entry_remove, gap_value, gap_without}
use Rattle.leaf_store.proofs.page.PageChanging.remove.Goals as goal

pub returns-in-Ok-clause-old : goal.returns-in-Ok-clause-old
returns-in-Ok-clause-old g c =
    let found : IsFound c.args.key (page_pairs c.args.self.now) c.in-Ok.i = search rules in
    sym (entry_value c.args.key c.args.self.now.pairs.items c.in-Ok.i c.remove-value.result found c.remove-value.ensures.value)

pub returns-in-Ok-clause-removed : goal.returns-in-Ok-clause-removed
returns-in-Ok-clause-removed g c =
    let found : IsFound c.args.key (page_pairs c.args.self.now) c.in-Ok.i = search rules in
    ap pairs_of c.remove-value.ensures.by_index.2 ∙ entry_remove c.args.key c.args.self.now.pairs.items c.in-Ok.i found

pub returns-in-Ok-clause-sound : goal.returns-in-Ok-clause-sound
returns-in-Ok-clause-sound g c =
    let P : List (ℕ × g.row.T.Denot) → Type 0 = λ l. IsAscending l in
    subst P (sym (returns-in-Ok-clause-removed g c)) (ascending-without c.args.key (page_pairs c.args.self.now) c.requires.sound)

pub returns-in-Err-clause-old : goal.returns-in-Err-clause-old
returns-in-Err-clause-old g c =
    let gap : IsGap c.args.key (page_pairs c.args.self.now) c.in-Err.field-0 = search rules in
    sym (gap_value c.args.key (page_pairs c.args.self.now) c.in-Err.field-0 gap)

pub returns-in-Err-clause-removed : goal.returns-in-Err-clause-removed
returns-in-Err-clause-removed g c =
    let gap : IsGap c.args.key (page_pairs c.args.self.now) c.in-Err.field-0 = search rules in
    gap_without c.args.key (page_pairs c.args.self.now) c.in-Err.field-0 gap
