use Rattle.std.proofs.Common.{rules, ◌≡◌, refl, ap, arith}
use Rattle.std.proofs.lemmas.Grind.{common_steps}
use Rattle.generation.specs.Generation.{GenerationContent}
use Rattle.survey_core.specs.State.{StateContent}
use Rattle.reader_pin.specs.Board.{last_seen, state_in, edit_count}
use Rattle.reader_pin.specs.Build.{whole_generation}
use Rattle.reader_pin.proofs.Errors.{always, on_err}
use Rattle.reader_pin.proofs.PublishLemmas.{whole_publishable}
use Rattle.reader_pin.proofs.SharedLemmas.{installed_tells}
use Rattle.reader_pin.proofs.SoloLemmas.{stays}
use Rattle.reader_pin.proofs.sight.Sight.publish_all.Goals as goal

pub returns-in_err-generation-clause-unchanged : goal.returns-in_err-generation-clause-unchanged
returns-in_err-generation-clause-unchanged g c = always c.from_residual.result (stays c.args.self.now c.args.self.now refl c.state-last.ensures.legal c.state-last.ensures.owned)

pub install-requires-clause-publishable : goal.install-requires-clause-publishable
install-requires-clause-publishable g c =
    let last : StateContent = state_in c.args.self.now (last_seen c.args.self.now) in
    let whole : c.in_ok-generation.generation ≡ whole_generation last = search rules in
    whole_publishable last c.in_ok-generation.generation whole (grind (arith, common_steps))

pub returns-clause-published : goal.returns-clause-published
returns-clause-published g c =
    let last : StateContent = state_in c.args.self.now (last_seen c.args.self.now) in
    let whole : c.in_ok-generation.generation ≡ whole_generation last = search rules in
    let count : c.in_ok-generation.generation.prefix ≡ edit_count (last_seen c.args.self.now) = ap (λ (g : GenerationContent). g.prefix) whole in
    installed_tells c.args.self.now c.args.self.now c.install.new.self c.in_ok-generation.generation.prefix c.install.result
    (stays c.args.self.now c.args.self.now refl c.state-last.ensures.legal c.state-last.ensures.owned) (omega (arith, count)) c.install.ensures.published c.install.ensures.event

pub returns-clause-unchanged : goal.returns-clause-unchanged
returns-clause-unchanged g c = on_err c.install.result (λ same. stays c.args.self.now c.install.new.self same c.state-last.ensures.legal c.state-last.ensures.owned) c.install.ensures.unchanged
