use Rattle.std.specs.Prelude.{IsSome}
use Rattle.hips_http.specs.Moment.{moment_of, SameEnds}
use Rattle.hips_http.proofs.ReadRequests.{HasRead}
use Rattle.hips_http.proofs.Sessions.{IsLoop}
use Rattle.hips_http.proofs.connection.answer_all.Given as goal

abbrev pub invariant-loop-count : goal.invariant-loop-count
invariant-loop-count g l = SameEnds l.fn.connection l.connection
    × IsLoop l.count l.top (moment_of g.S.Source g.K.Sink g.B.Board.content l.fn.connection) (moment_of g.S.Source g.K.Sink g.B.Board.content l.connection)
    × (IsSome (g.S.Source.left l.fn.connection.src.now) → HasRead g.S.Source.left g.S.Source.readings l.fn.connection.frame.now.room l.count l.connection.frame.now.held l.fn.connection.src.now l.connection.src.now)
