use Rattle.hips_place.specs.Place.{door_of}
use Rattle.hips_place.proofs.DoorsLemmas.{failed_rises, failed_only, done_only}
use Rattle.hips_place.proofs.doors.serve_doors.Goals as goal

pub returns-clause-failed : goal.returns-clause-failed
returns-clause-failed g c =
    failed_rises (door_of g.D.Door) c.args.state.conf c.args.state.opening c.args.most c.args.doors.now c.serve_named.new.doors c.serve_named.result c.serve_named.ensures.served

pub returns-clause-sound : goal.returns-clause-sound
returns-clause-sound g c =
    failed_only (door_of g.D.Door) c.args.state.conf c.args.state.opening c.args.most c.args.doors.now c.serve_named.new.doors c.serve_named.result c.serve_named.ensures.served

pub returns-clause-done : goal.returns-clause-done
returns-clause-done g c =
    done_only (door_of g.D.Door) c.args.state.conf c.args.state.opening c.args.most c.args.doors.now c.serve_named.new.doors c.serve_named.result c.serve_named.ensures.served
