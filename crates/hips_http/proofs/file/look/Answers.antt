use Rattle.std.proofs.Common.{inl, inr, refl}
use Rattle.hips_http.proofs.FileLemmas.{held_none, held_some}
use Rattle.hips_http.proofs.file.look.Goals as goal

pub returns-in-Some : goal.returns-in-Some
returns-in-Some g c = let board = g.B.Board.content c.args.board.now in inl (refl, held_some board board.held _ c.in-Some.ensures)

pub returns-in-None : goal.returns-in-None
returns-in-None g c = let board = g.B.Board.content c.args.board.now in inr (c.pin.ensures, held_none board board.held c.in-None.ensures)
