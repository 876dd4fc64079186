use Rattle.std.proofs.Common.{subst}
use Rattle.survey_core.specs.State.{StateContent, survey_state}
use Rattle.reader_pin.specs.Board.{Publishes, last_seen, state_in}
use Rattle.reader_pin.specs.Next.{Follows}
use Rattle.reader_pin.proofs.SoloLemmas.{happens, published-edits}
use Rattle.reader_pin.proofs.solo.Solo.install.Goals as goal

pub returns-clause-event : goal.returns-clause-event
returns-clause-event c =
    let last : StateContent = state_in c.args.self.now (last_seen c.args.self.now) in
    let follows : Follows (Publishes c.args.generation.prefix) last c.in_ok-next.next =
    subst (λ (state : StateContent). Follows (Publishes c.args.generation.prefix) state c.in_ok-next.next) c.last.ensures.last c.in_ok-next.ensures in
    happens (Publishes c.args.generation.prefix) c.args.self.now c.go_on.new.self (survey_state c.in_ok-next.next)
    c.in_ok-go_on.ensures.went c.go_on.ensures.legal c.last-made.ensures.owned follows.event

pub returns-clause-edits : goal.returns-clause-edits
returns-clause-edits c =
    let last : StateContent = state_in c.args.self.now (last_seen c.args.self.now) in
    let follows : Follows (Publishes c.args.generation.prefix) last c.in_ok-next.next =
    subst (λ (state : StateContent). Follows (Publishes c.args.generation.prefix) state c.in_ok-next.next) c.last.ensures.last c.in_ok-next.ensures in
    published-edits c.args.generation.prefix c.args.self.now c.go_on.new.self (survey_state c.in_ok-next.next)
    c.in_ok-go_on.ensures.went follows.event
