use Rattle.std.proofs.Common.{rules, tests, sym, ◌∙◌, ◌==◌}
use Rattle.std.proofs.lemmas.Iterator.{YieldsList-from_slice}
use Rattle.std.proofs.lemmas.Iterator.Search.{position_from_yields_List}
use Rattle.http_frame.specs.Target.{question_mark}
use Rattle.http_frame.proofs.Targets.{before_place, before_none}
use Rattle.http_frame.proofs.target.before_query.Goals as goal

pub returns-in-Some-clause-value : goal.returns-in-Some-clause-value
returns-in-Some-clause-value c =
    let at = position_from_yields_List (λ byte. byte == question_mark) _ _ c.position.result c.position.ensures.ran (YieldsList-from_slice c.args.target.now (cc)) (λ x b q k. search (rules, tests)) in
    before_place (λ byte. byte == question_mark) c.args.target.now c.in-Some.end (sym at ∙ c.in-Some.is)

pub returns-in-None-clause-value : goal.returns-in-None-clause-value
returns-in-None-clause-value c =
    let at = position_from_yields_List (λ byte. byte == question_mark) _ _ c.position.result c.position.ensures.ran (YieldsList-from_slice c.args.target.now (cc)) (λ x b q k. search (rules, tests)) in
    before_none (λ byte. byte == question_mark) c.args.target.now (sym at ∙ c.in-None.is)
