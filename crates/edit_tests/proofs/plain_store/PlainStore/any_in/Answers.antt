use Rattle.std.proofs.Common.{rules, ◌≡◌, ◌≤◌, false, sym, ◌∙◌, ap, arith}
use Rattle.std.specs.Prelude.{nat_lt}
use Rattle.std.proofs.lemmas.Bool.Decides.{nat_tests}
use Rattle.leaf_store.specs.Store.{any_key_in}
use Rattle.edit_tests.proofs.InRange.{first_in_range, none_in_range}
use Rattle.edit_tests.proofs.plain_store.PlainStore.any_in.Goals as goal

pub returns-then-low-high : goal.returns-then-low-high
returns-then-low-high g c = c.is_some.ensures
    ∙ first_in_range c.args.low c.args.high c.self.inside.entries.entries _ _ c.next.result (λ x. (x.0.now, x.1.now)) c.next.ensures.steps (c.range.ensures.between (search rules))
    ∙ ap (any_key_in c.args.low c.args.high) c.self.view_is

pub returns-else-low-high : goal.returns-else-low-high
returns-else-low-high g c =
    let behind : c.args.high ≤ c.args.low = omega arith in
    let no : nat_lt c.args.low c.args.high ≡ false = grind (arith, nat_tests) in
    no ∙ sym (none_in_range c.args.low c.args.high c.args.self.now behind)
