use Rattle.std.proofs.Common.{◌≡◌, ◌≤◌, List, IfSome}
use Rattle.hips_http.specs.SessionRun.{room_of}
use Rattle.hips_place.specs.Place.{OneSession, door_of}
use Rattle.hips_place.proofs.PlaceLemmas.{place_of, SoFar}
use Rattle.hips_place.proofs.place.serve_place.Given as goal

abbrev pub invariant-loop-count : goal.invariant-loop-count
invariant-loop-count g l = record {
  so_far : (sessions : List OneSession) × SoFar l.count l.frame
      (place_of (record { board = g.B.Board.content l.fn.board; steps = l.fn.steps }) (record { board = g.B.Board.content l.board; steps = l.steps })
      (door_of g.D.Door l.fn.door) (door_of g.D.Door l.door) l.end sessions);
  room : IfSome l.frame (λ frame. frame.room ≡ room_of (g.B.Board.content l.board).conf);
  steps : l.fn.steps ≤ l.steps;
}

-- the numbers of the connection that was accepted
abbrev pub ghosts-serve_connection : goal.ghosts-serve_connection
ghosts-serve_connection g a = record { source = g.D.In.Source.number a.connection.0; sink = g.D.Out.Sink.number a.connection.1 }
