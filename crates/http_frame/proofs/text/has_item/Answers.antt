use Rattle.std.proofs.Common.{rules, tests, ◌==◌}
use Rattle.std.proofs.lemmas.Iterator.Search.{any_from_yields_List}
use Rattle.std.proofs.lemmas.Iterator.Splits.{YieldsList-from_slice_split}
use Rattle.httparse.specs.Ascii.{comma}
use Rattle.httparse.specs.Grammar.{trim_ows}
use Rattle.http_frame.specs.Fields.{same_text}
use Rattle.http_frame.proofs.text.has_item.Goals as goal

pub returns : goal.returns
returns c =
    any_from_yields_List (λ part. same_text (trim_ows part) c.args.item.now) _ _ c.any.result c.any.ensures.ran
    (YieldsList-from_slice_split _ (λ byte. byte == comma) c.args.value.now c.split.ensures.rest c.split.ensures.done c.split.ensures.closure (λ x b q k. search (rules, tests)))
    (λ x b q k. search (rules, tests))
