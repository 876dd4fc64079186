use Rattle.std.proofs.Common.{arith, ◌≡◌, sym, ◌∙◌}
use Rattle.std.proofs.lemmas.Fmt.{decimal_injective}
use Rattle.hipsd_run.proofs.command.small_number.Goals as goal
use Rattle.hipsd_run.proofs.command.small_number.Goals.{else-from-n-via-then-from-n+else-n-from, else-from-n-via-else-from-n}

pub returns-else-from-n : goal.returns-else-from-n
returns-else-from-n c n low high e =
    let same : n ≡ c.in_ok-n.n =
    decimal_injective n c.in_ok-n.n (omega arith) (omega arith) (sym e ∙ (rw c.as_bytes.ensures.value at c.in_ok-n.ensures.spelled)) in
    elim c.else-from-n.branch [
      | else-from-n-via-then-from-n+else-n-from w ↦ omega arith
      | else-from-n-via-else-from-n w ↦ omega arith
    ]
