use Rattle.std.proofs.Common.{arith, ◌≡◌, sym, ◌∙◌, decimal}
use Rattle.std.proofs.lemmas.Fmt.{decimal_injective}
use Rattle.hipsd_run.proofs.command.read_catalog.Goals as goal
use Rattle.hipsd_run.proofs.command.read_catalog.Goals.{else-per_tile-ge1-via-then-per_tile-ge1+else-per_tile-le4096, else-per_tile-ge1-via-else-per_tile-ge1}

pub returns-else-per_tile-ge1-clause-none : goal.returns-else-per_tile-ge1-clause-none
returns-else-per_tile-ge1-clause-none c = λ k n asks.
    let e = asks.spelled in
    let range = asks.in_range in
    let spelled : c.args.per_tile.now ≡ decimal n = cc in
    let same : n ≡ c.in_ok-per_tile.per_tile =
    decimal_injective n c.in_ok-per_tile.per_tile (omega arith) (omega arith)
    (sym spelled ∙ (rw c.as_bytes.ensures.value at c.in_ok-per_tile.ensures.spelled)) in
    elim c.else-per_tile-ge1.branch [
      | else-per_tile-ge1-via-then-per_tile-ge1+else-per_tile-le4096 w ↦ absurd (omega arith)
      | else-per_tile-ge1-via-else-per_tile-ge1 w ↦ absurd (omega arith)
    ]
