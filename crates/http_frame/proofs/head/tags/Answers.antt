use Rattle.std.proofs.Common.{rules, tests, arith, ◌<◌, length, codes, sym, ap, ◌∙◌}
use Rattle.std.specs.List.{list_all}
use Rattle.std.proofs.lemmas.Grind.{common_steps}
use Rattle.std.proofs.lemmas.Iterator.{YieldsList-from_slice}
use Rattle.std.proofs.lemmas.Iterator.Search.{all_from_yields_List}
use Rattle.http_frame.specs.Fields.{values}
use Rattle.http_frame.specs.Request.{is_star}
use Rattle.http_frame.proofs.Values.{all_shown, tags_any, tags_listed}
use Rattle.http_frame.proofs.head.tags.Goals as goal

pub returns-then-all : goal.returns-then-all
returns-then-all c =
    let some : 0 < length (values (codes "if-match") c.args.fields.now) = grind (arith, common_steps) in
    let all = all_from_yields_List (λ value. is_star value.now) _ _ c.all.result c.all.ensures.ran (YieldsList-from_slice c.values-values.result.items (cc)) (λ x b q k. search (rules, tests))
    ∙ all_shown is_star c.values-values.result.items ∙ ap (list_all is_star) c.values-values.ensures.values in
    sym (tags_any (values (codes "if-match") c.args.fields.now) some (sym all ∙ c.if-all.true))

pub returns-else-all : goal.returns-else-all
returns-else-all c =
    let some : 0 < length (values (codes "if-match") c.args.fields.now) = grind (arith, common_steps) in
    let all = all_from_yields_List (λ value. is_star value.now) _ _ c.all.result c.all.ensures.ran (YieldsList-from_slice c.values-values.result.items (cc)) (λ x b q k. search (rules, tests))
    ∙ all_shown is_star c.values-values.result.items ∙ ap (list_all is_star) c.values-values.ensures.values in
    sym (tags_listed (values (codes "if-match") c.args.fields.now) some (sym all ∙ c.if-all.false))
