use Rattle.std.proofs.Common.{rules, tests, ◌∙◌, ap, codes}
use Rattle.std.specs.List.{list_any}
use Rattle.std.proofs.lemmas.Iterator.{YieldsList-from_slice}
use Rattle.std.proofs.lemmas.Iterator.Search.{any_from_yields_List}
use Rattle.http_frame.specs.Fields.{same_text}
use Rattle.http_frame.proofs.Values.{any_shown}
use Rattle.http_frame.proofs.head.is_waiting.Goals as goal

pub returns : goal.returns
returns c =
    any_from_yields_List (λ value. same_text value.now (codes "100-continue")) _ _ c.any.result c.any.ensures.ran
    (YieldsList-from_slice c.values.result.items (cc)) (λ x b q k. search (rules, tests))
    ∙ any_shown (λ value. same_text value (codes "100-continue")) c.values.result.items
    ∙ ap (list_any (λ value. same_text value (codes "100-continue"))) c.values.ensures.values
