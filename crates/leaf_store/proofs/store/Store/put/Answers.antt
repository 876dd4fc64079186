use Rattle.std.proofs.Common.{◌≡◌, ℕ, List, Some, option_map, subst, arith}
use Rattle.std.specs.Prelude.{IfOk, OnOk, OnErr}
use Rattle.std.specs.Arc.{arc_value}
use Rattle.leaf_store.specs.Store.{IsAscending, value_at, with_value}
use Rattle.leaf_store.specs.Tree.{root_entries, root_pairs, IsRoot}
use Rattle.leaf_store.proofs.Roots.{put_there, put_others, put_count}
use Rattle.leaf_store.proofs.Shown.{root_shown}
use Rattle.leaf_store.proofs.store.Store.put.Goals as goal

pub returns-in_err-one-in-None-clause-ascending : goal.returns-in_err-one-in-None-clause-ascending
returns-in_err-one-in-None-clause-ascending g c = c.self.invariant.ascending

pub returns-else-root-clause-there : goal.returns-else-root-clause-there
unfolding root_entries IsRoot
returns-else-root-clause-there g c =
    let put : OnOk c.put.result (root_pairs (Some c.put.new.self) ≡ with_value c.args.key (arc_value c.args.value) c.args.self.now) = grind (arith, root_shown) in
    put_there c.args.key c.args.self.now (root_pairs (Some c.put.new.self)) (arc_value c.args.value) c.put.result put

pub returns-else-root-clause-others : goal.returns-else-root-clause-others
unfolding root_entries IsRoot
returns-else-root-clause-others g c =
    let put : OnOk c.put.result (root_pairs (Some c.put.new.self) ≡ with_value c.args.key (arc_value c.args.value) c.args.self.now) = grind (arith, root_shown) in
    let refused : OnErr c.put.result (root_pairs (Some c.put.new.self) ≡ c.args.self.now) = grind (arith, root_shown) in
    put_others c.args.key c.args.self.now (root_pairs (Some c.put.new.self)) (arc_value c.args.value) c.put.result put refused

pub returns-else-root-clause-count : goal.returns-else-root-clause-count
unfolding root_entries IsRoot
returns-else-root-clause-count g c =
    let P : List (ℕ × g.row.T.Denot) → Type 0 = λ l. IsAscending l in
    let ascends : IsAscending c.args.self.now = subst P c.self.view_is c.self.invariant.ascending in
    let put : OnOk c.put.result (root_pairs (Some c.put.new.self) ≡ with_value c.args.key (arc_value c.args.value) c.args.self.now) = grind (arith, root_shown) in
    let old : IfOk c.put.result (λ old. option_map arc_value old ≡ value_at c.args.key c.args.self.now) = grind (arith, root_shown) in
    put_count c.args.key c.args.self.now (root_pairs (Some c.put.new.self)) (arc_value c.args.value) c.put.result ascends old put
