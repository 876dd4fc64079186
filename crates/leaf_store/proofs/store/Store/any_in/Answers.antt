use Rattle.std.proofs.Common.{◌≡◌, ◌≤◌, false, sym, ◌∙◌, arith}
use Rattle.std.specs.Prelude.{nat_lt}
use Rattle.std.proofs.lemmas.Bool.Decides.{nat_tests}
use Rattle.leaf_store.proofs.LookUps.{none_in_range}
use Rattle.leaf_store.proofs.store.Store.any_in.Goals as goal

pub returns-else-low-high : goal.returns-else-low-high
returns-else-low-high g c =
    let behind : c.args.high ≤ c.args.low = omega arith in
    let no : nat_lt c.args.low c.args.high ≡ false = grind (arith, nat_tests) in
    no ∙ sym (none_in_range c.args.low c.args.high c.args.self.now behind)
