use Rattle.std.proofs.Common.{rules, ◌≡◌, ℕ, List, None, option_map, sym, ◌∙◌, ap, subst, arith}
use Rattle.std.specs.Arc.{arc_value}
use Rattle.leaf_store.specs.Store.{IsAscending, value_at, without_key}
use Rattle.leaf_store.specs.Tree.{root_entries, IsRoot}
use Rattle.leaf_store.proofs.Changed.{without-missing, value-without_same, value-without_other, ascending-without}
use Rattle.leaf_store.proofs.Roots.{tree_none, removed_count}
use Rattle.leaf_store.proofs.Shown.{root_shown}
use Rattle.leaf_store.proofs.store.Store.remove.Goals as goal

pub invariant_of-self-then-root-eq0 : goal.invariant_of-self-then-root-eq0
invariant_of-self-then-root-eq0 g c = tree_none

pub returns-then-is_none-clause-removed : goal.returns-then-is_none-clause-removed
unfolding root_entries IsRoot
returns-then-is_none-clause-removed g c =
    let missing : value_at c.args.key c.args.self.now ≡ None = search rules in
    sym (without-missing c.args.key c.args.self.now missing)

pub returns-after-root-eq0-clause-absent : goal.returns-after-root-eq0-clause-absent
unfolding root_entries IsRoot
returns-after-root-eq0-clause-absent g c =
    let P : List (ℕ × g.row.T.Denot) → Type 0 = λ l. IsAscending l in
    let ascends : IsAscending c.args.self.now = c.get.ensures.ascending in
    let removed : c.if-root-eq0.self ≡ without_key c.args.key c.args.self.now = grind (arith, root_shown) in
    ap (value_at c.args.key) removed ∙ value-without_same c.args.key c.args.self.now ascends

pub returns-after-root-eq0-clause-others : goal.returns-after-root-eq0-clause-others
unfolding root_entries IsRoot
returns-after-root-eq0-clause-others g c = λ other h.
    let removed : c.if-root-eq0.self ≡ without_key c.args.key c.args.self.now = grind (arith, root_shown) in
    ap (value_at other) removed ∙ value-without_other c.args.key other c.args.self.now h

pub returns-after-root-eq0-clause-count : goal.returns-after-root-eq0-clause-count
unfolding root_entries IsRoot
returns-after-root-eq0-clause-count g c =
    let removed : c.if-root-eq0.self ≡ without_key c.args.key c.args.self.now = grind (arith, root_shown) in
    let old : option_map arc_value c.in_ok-old-in-Some.old ≡ value_at c.args.key c.args.self.now = grind (arith, root_shown) in
    removed_count c.args.key c.args.self.now c.if-root-eq0.self c.in_ok-old-in-Some.old old removed

pub returns-after-root-eq0-clause-ascending : goal.returns-after-root-eq0-clause-ascending
unfolding root_entries IsRoot
returns-after-root-eq0-clause-ascending g c =
    let P : List (ℕ × g.row.T.Denot) → Type 0 = λ l. IsAscending l in
    let removed : c.if-root-eq0.self ≡ without_key c.args.key c.args.self.now = grind (arith, root_shown) in
    subst P (sym removed) (ascending-without c.args.key c.args.self.now c.get.ensures.ascending)
