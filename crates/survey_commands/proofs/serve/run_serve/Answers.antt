use Rattle.std.proofs.Common.{◌≡◌, ◌++◌, length, map, take, Ok, Err, refl, sym, ap, subst, arith}
use Rattle.survey_core.specs.State.{StateContent}
use Rattle.hips_place.specs.Place.{SomeRises, door_of}
use Rattle.command_output.specs.Status.{number_of}
use Rattle.survey_commands.specs.Serve.{Serves}
use Rattle.survey_commands.proofs.ServeLemmas.{first_of, rises_among}
use Rattle.survey_commands.proofs.serve.run_serve.Goals as goal

pub serve_state-requires-clause-first : goal.serve_state-requires-clause-first
serve_state-requires-clause-first g c κs within = let is = c.in-Ok.ensures.opened.2 in (ap (λ (s : StateContent). s.batches) is, ap (λ (s : StateContent). s.tip) is)

pub returns-in-Ok-clause-run : goal.returns-in-Ok-clause-run
returns-in-Ok-clause-run g c =
    let opened = c.in-Ok.ensures.opened in
    let split = c.split_at_mut-served in
    let served = c.serve_state.ensures.served opened.0 opened.2 in
    let len : length c.serve_state.new.doors ≡ c.args.asked.places = omega (arith, split.ensures.front_len, c.serve_state.auto.doors) in
    let new = first_of c.args.asked.places c.serve_state.new.doors split.result.1.now len in (
      Ok opened.0,
      (
        opened.1,
        subst (λ xs. Serves opened.0 c.args.asked.connections (map (door_of g.D.Door) xs) (map (door_of g.D.Door) (take c.args.asked.places (c.serve_state.new.doors ++ split.result.1.now))) (number_of c.serve_state.result))
            split.ensures.front
            (subst (λ xs. Serves opened.0 c.args.asked.connections (map (door_of g.D.Door) split.result.0.now) (map (door_of g.D.Door) xs) (number_of c.serve_state.result)) (sym new) served),
        refl,
      ),
    )

pub returns-in-Ok-clause-door_fault : goal.returns-in-Ok-clause-door_fault
returns-in-Ok-clause-door_fault g c = λ e.
    let split = c.split_at_mut-served in
    subst (λ xs. SomeRises (map g.D.Door.faults xs) (map g.D.Door.faults (c.serve_state.new.doors ++ split.result.1.now))) (sym split.ensures.value)
    (rises_among g.D.Door.faults split.result.0.now c.serve_state.new.doors split.result.1.now (c.serve_state.ensures.door_fault e))

pub returns-in-Err-clause-run : goal.returns-in-Err-clause-run
returns-in-Err-clause-run g c = (
  Err c.in-Err.refusal,
  (c.in-Err.ensures.refused, ap (λ xs. map (door_of g.D.Door) (take c.args.asked.places xs)) (sym c.split_at_mut-served.ensures.value), c.say_why.ensures.said),
)
