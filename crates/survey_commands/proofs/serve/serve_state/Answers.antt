use Rattle.std.proofs.Common.{map, subst}
use Rattle.survey_core.specs.State.{StateContent}
use Rattle.hips_place.specs.Place.{door_of, ServesAs}
use Rattle.survey_commands.proofs.serve.serve_state.Goals as goal

pub returns-clause-served : goal.returns-clause-served
returns-clause-served g c = λ survey is. (
  c.serve_doors-served.result,
  subst (λ (s : StateContent). ServesAs s.conf s.opening c.args.connections (map (door_of g.D.Door) c.args.doors.now) (map (door_of g.D.Door) c.serve_doors-served.new.doors) c.serve_doors-served.result)
      is c.serve_doors-served.ensures.served,
  c.serve_status.ensures,
)
