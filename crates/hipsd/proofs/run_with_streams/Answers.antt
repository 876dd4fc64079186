use Rattle.std.proofs.Common.{◌≡◌, length, ap, ◌∙◌, arith}
use Rattle.std.proofs.lemmas.List.{length-replicate}
use Rattle.hipsd.proofs.WordsLemmas.{none_of_many}
use Rattle.hipsd.proofs.run_with_streams.Goals as goal

pub returns-clause-usage_only : goal.returns-clause-usage_only
returns-clause-usage_only g c = λ one.
    let len : length c.in_ok-doors.doors.items ≡ 64 = ap length c.in_ok-doors.ensures ∙ simp length-replicate in
    none_of_many _ _ (omega (arith, len)) (c.run_over-status.ensures.usage_only one)
