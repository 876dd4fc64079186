use Rattle.std.proofs.Common.{arith, ◌≡◌, sym, ◌∙◌, decimal}
use Rattle.std.proofs.lemmas.Fmt.{decimal_injective}
use Rattle.survey_commands.specs.Serve.{IsServe}
use Rattle.hipsd_run.proofs.command.read_serve.Goals as goal
use Rattle.hipsd_run.proofs.command.read_serve.Goals.{else-connections-ge1-via-then-connections-ge1+else-connections-le65536, else-connections-ge1-via-else-connections-ge1}

pub returns-else-connections-ge1-clause-none : goal.returns-else-connections-ge1-clause-none
returns-else-connections-ge1-clause-none c = λ address asked asks.
    let e = asks.spelled in
    let range : IsServe asked.connections asked.places = asks.in_range in
    let spelled : c.args.connections.now ≡ decimal asked.connections = cc in
    let same : asked.connections ≡ c.in_ok-connections.connections =
    decimal_injective asked.connections c.in_ok-connections.connections (omega arith) (omega arith)
    (sym spelled ∙ (rw c.as_bytes.ensures.value at c.in_ok-connections.ensures.spelled)) in
    elim c.else-connections-ge1.branch [
      | else-connections-ge1-via-then-connections-ge1+else-connections-le65536 w ↦ absurd (omega arith)
      | else-connections-ge1-via-else-connections-ge1 w ↦ absurd (omega arith)
    ]
