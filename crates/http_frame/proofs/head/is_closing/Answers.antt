use Rattle.std.proofs.Common.{rules, tests, ◌∙◌, ap, codes}
use Rattle.std.specs.List.{list_any}
use Rattle.std.proofs.lemmas.Iterator.{YieldsList-from_slice}
use Rattle.std.proofs.lemmas.Iterator.Search.{any_from_yields_List}
use Rattle.http_frame.specs.Fields.{has_item}
use Rattle.http_frame.proofs.Values.{any_shown}
use Rattle.http_frame.proofs.head.is_closing.Goals as goal

pub returns : goal.returns
returns c =
    any_from_yields_List (λ value. has_item (codes "close") value.now) _ _ c.any.result c.any.ensures.ran
    (YieldsList-from_slice c.values.result.items (cc)) (λ x b q k. search (rules, tests))
    ∙ any_shown (has_item (codes "close")) c.values.result.items
    ∙ ap (list_any (has_item (codes "close"))) c.values.ensures.values
