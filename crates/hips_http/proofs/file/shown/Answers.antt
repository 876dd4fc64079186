use Rattle.std.proofs.Common.{◌∙◌, sym, ap, Option}
use Rattle.std.specs.Prelude.{unwrap_or}
use Rattle.survey_core.specs.History.{SurveyState}
use Rattle.reader_pin.specs.Board.{last_seen, state_in}
use Rattle.hips_http.proofs.FileLemmas.{held_none, held_shown}
use Rattle.hips_http.proofs.file.shown.Goals as goal

pub returns-in-Some : goal.returns-in-Some
returns-in-Some g c = let board = g.B.Board.content c.args.board.now in held_shown board board.held _ (last_seen board) c.in-Some.ensures

pub returns-in-None : goal.returns-in-None
returns-in-None g c =
    let board = g.B.Board.content c.args.board.now in
    c.last.ensures.last ∙ ap (λ (held : Option SurveyState). state_in board (unwrap_or held (last_seen board))) (sym (held_none board board.held c.in-None.ensures))
