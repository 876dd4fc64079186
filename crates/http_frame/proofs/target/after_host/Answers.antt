use Rattle.std.proofs.Common.{rules, tests, sym, ◌∙◌, ◌==◌}
use Rattle.std.proofs.lemmas.Iterator.{YieldsList-from_slice}
use Rattle.std.proofs.lemmas.Iterator.Search.{position_from_yields_List}
use Rattle.http_frame.specs.Target.{slash}
use Rattle.http_frame.proofs.Targets.{from_slash, no_slash}
use Rattle.http_frame.proofs.target.after_host.Goals as goal

pub returns-in-Some-clause-value : goal.returns-in-Some-clause-value
returns-in-Some-clause-value c =
    let at = position_from_yields_List (λ byte. byte == slash) _ _ c.position.result c.position.ensures.ran (YieldsList-from_slice c.args.rest.now (cc)) (λ x b q k. search (rules, tests)) in
    from_slash c.args.rest.now c.in-Some.start (sym at ∙ c.in-Some.is)

pub returns-in-None-clause-value : goal.returns-in-None-clause-value
returns-in-None-clause-value c =
    let at = position_from_yields_List (λ byte. byte == slash) _ _ c.position.result c.position.ensures.ran (YieldsList-from_slice c.args.rest.now (cc)) (λ x b q k. search (rules, tests)) in
    no_slash c.args.rest.now (sym at ∙ c.in-None.is)
