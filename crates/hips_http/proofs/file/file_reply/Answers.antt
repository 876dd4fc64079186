use Rattle.std.proofs.Common.{rules, ◌≡◌, ◌++◌, take, Some}
use Rattle.tile_path.specs.Spelling.{spelling}
use Rattle.survey_core.specs.State.{survey_state}
use Rattle.survey_core.specs.Reply.{file_at}
use Rattle.hips_http.proofs.FileLemmas.{answered_by, found_is}
use Rattle.hips_http.proofs.PathLemmas.{none_answered}
use Rattle.hips_http.proofs.file.file_reply.Goals as goal

pub returns-in-None-clause-answer : goal.returns-in-None-clause-answer
returns-in-None-clause-answer c = λ path is.
    let state = c.args.state.now in
    let kept = rw (c.deref.ensures, c.conf.ensures.conf) at c.shape-orders.ensures.kept in
    let unknown = rw c.in-None.is at is in
    rw (none_answered state.conf state.opening (survey_state state) path kept.shape.greatest_top kept.shape.low_order unknown) c.absent_reply.ensures

pub returns-in-None-file_parts-clause-answer : goal.returns-in-None-file_parts-clause-answer
returns-in-None-file_parts-clause-answer c = λ path is.
    let state = c.args.state.now in
    let known = rw c.in-Some.is at is in
    let answered = answered_by state.conf state.opening (survey_state state) path c.in-Some.file known in
    search rules

pub returns-clause-answer : goal.returns-clause-answer
returns-clause-answer c = λ path is.
    let state = c.args.state.now in
    let text = spelling c.in-Some.file in
    let known = rw c.in-Some.is at is in
    let parts = c.in-Some-file_parts.parts in
    let front = take parts.front c.file_parts.new.out in
    let found : file_at state.conf state.opening (survey_state state) text ≡ Some (front ++ parts.kept.now ++ parts.zeros.now) = search rules in
    rw (answered_by state.conf state.opening (survey_state state) path c.in-Some.file known, found)
    (found_is c.args.close state.tip c.tip.result text c.file_kind.result front parts.kept.now parts.zeros.now c.file_kind.ensures c.tip.ensures.tip)
