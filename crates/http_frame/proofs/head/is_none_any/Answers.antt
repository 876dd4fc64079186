use Rattle.std.proofs.Common.{rules, tests, ◌∙◌, ap}
use Rattle.std.specs.List.{list_any}
use Rattle.std.proofs.lemmas.Iterator.{YieldsList-from_slice}
use Rattle.std.proofs.lemmas.Iterator.Search.{any_from_yields_List}
use Rattle.http_frame.specs.Request.{is_star}
use Rattle.http_frame.proofs.Values.{any_shown}
use Rattle.http_frame.proofs.head.is_none_any.Goals as goal

pub returns : goal.returns
returns c =
    any_from_yields_List (λ value. is_star value.now) _ _ c.any.result c.any.ensures.ran
    (YieldsList-from_slice c.values.result.items (cc)) (λ x b q k. search (rules, tests))
    ∙ any_shown is_star c.values.result.items
    ∙ ap (list_any is_star) c.values.ensures.values
