use Rattle.std.proofs.Common.{◌≡◌, ap, ◌∙◌, subst, arith}
use Rattle.generation.specs.Generation.{GenerationContent}
use Rattle.survey_core.specs.State.{StateContent}
use Rattle.reader_pin.specs.Board.{last_seen, state_in, edit_count}
use Rattle.reader_pin.specs.Build.{BuildsAll, whole_generation}
use Rattle.reader_pin.proofs.Errors.{on_err}
use Rattle.reader_pin.proofs.PublishLemmas.{earlier_publishable}
use Rattle.reader_pin.proofs.SharedLemmas.{stays_stays, last_precedes, installed_tells, result_later, steps_later}
use Rattle.reader_pin.proofs.sight.Sight.publish.Goals as goal

pub install-requires-clause-publishable : goal.install-requires-clause-publishable
install-requires-clause-publishable g c =
    let pinned : StateContent = state_in c.args.self.now (last_seen c.args.self.now) in
    let last : StateContent = state_in c.catch_up.new.self (last_seen c.catch_up.new.self) in
    let whole : c.in-Some.generation ≡ whole_generation pinned = subst (BuildsAll pinned) c.in-Some.is c.requires.built in
    let tip : c.tip-tip.result ≡ last.tip = c.tip-tip.ensures.tip ∙ ap (λ (s : StateContent). s.tip) c.state.ensures.last in
    let prefix : c.prefix.result ≡ c.in-Some.generation.prefix = c.prefix.ensures in
    earlier_publishable pinned last c.in-Some.generation whole c.catch_up.ensures.stays.conf c.catch_up.ensures.stays.opening
    (last_precedes c.args.self.now c.catch_up.new.self c.state-pinned.ensures.legal c.catch_up.ensures.stays.legal c.catch_up.ensures.stays.earlier) (omega arith)

pub returns-then-prefix-tip-clause-published : goal.returns-then-prefix-tip-clause-published
returns-then-prefix-tip-clause-published g c =
    let pinned : StateContent = state_in c.args.self.now (last_seen c.args.self.now) in
    let whole : c.in-Some.generation ≡ whole_generation pinned = subst (BuildsAll pinned) c.in-Some.is c.requires.built in
    let count : c.in-Some.generation.prefix ≡ edit_count (last_seen c.args.self.now) = ap (λ (g : GenerationContent). g.prefix) whole in
    installed_tells c.args.self.now c.catch_up.new.self c.install.new.self c.in-Some.generation.prefix c.install.result c.catch_up.ensures.stays (omega (arith, count))
    c.install.ensures.published c.install.ensures.event

pub returns-clause-published : goal.returns-clause-published
returns-clause-published g c =
    result_later c.args.self.now c.catch_up.new.self c.publish_all.new.self c.publish_all.result c.state-pinned.ensures.legal c.catch_up.ensures.stays c.publish_all.ensures.published

pub returns-clause-unchanged : goal.returns-clause-unchanged
returns-clause-unchanged g c =
    on_err c.publish_all.result (stays_stays c.args.self.now c.catch_up.new.self c.publish_all.new.self c.catch_up.ensures.stays) c.publish_all.ensures.unchanged

pub returns-clause-steps : goal.returns-clause-steps
returns-clause-steps g c =
    steps_later c.more_touched_is_more_work.ensures c.args.self.now c.catch_up.new.self c.publish_all.new.self c.publish_all.result c.args.steps.now c.publish_all.new.steps
    c.state-pinned.ensures.legal c.catch_up.ensures.stays c.publish_all.ensures.steps
