use Rattle.std.proofs.Common.{arith, ◌≡◌, sym, ◌∙◌, decimal}
use Rattle.std.proofs.lemmas.Fmt.{decimal_injective}
use Rattle.survey_commands.specs.Make.{IsMake}
use Rattle.hipsd_run.proofs.command.read_make.Goals as goal
use Rattle.hipsd_run.proofs.command.read_make.Goals.{else-edits-ge1-via-then-edits-ge1+else-edits-le4096, else-edits-ge1-via-else-edits-ge1}

pub returns-else-edits-ge1-clause-none : goal.returns-else-edits-ge1-clause-none
returns-else-edits-ge1-clause-none c = λ n m asks.
    let e = asks.spelled in
    let range : IsMake n m = asks.in_range in
    let spelled : c.args.edits.now ≡ decimal m = cc in
    let same : m ≡ c.in_ok-edits.edits =
    decimal_injective m c.in_ok-edits.edits (omega arith) (omega arith)
    (sym spelled ∙ (rw c.as_bytes-2.ensures.value at c.in_ok-edits.ensures.spelled)) in
    elim c.else-edits-ge1.branch [
      | else-edits-ge1-via-then-edits-ge1+else-edits-le4096 w ↦ absurd (omega arith)
      | else-edits-ge1-via-else-edits-ge1 w ↦ absurd (omega arith)
    ]
