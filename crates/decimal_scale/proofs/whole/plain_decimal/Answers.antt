use Rattle.std.proofs.Common.{refl, sym, ◌∙◌, ap}
use Rattle.decimal_scale.specs.Whole.{plain_value}
use Rattle.decimal_scale.proofs.PlainLemmas.{plain_none, plain_parsed, plain_parsed_value, plain_not_utf8}
use Rattle.decimal_scale.proofs.whole.plain_decimal.Goals as goal

pub returns-then-not-starts_plain-clause-number : goal.returns-then-not-starts_plain-clause-number
returns-then-not-starts_plain-clause-number c = sym (plain_none c.args.text.now (c.if-not-starts_plain.ensures.no refl))

pub returns-in-Ok-clause-number : goal.returns-in-Ok-clause-number
returns-in-Ok-clause-number c =
    let same = c.in-Ok.ensures.cases.0 in
    let starts = rw (sym same) at (c.if-not-starts_plain.ensures.yes refl) in
    c.ok.ensures.value
    ∙ plain_parsed_value c.in-Ok.text.now c.parse.result c.parse.ensures.value.0 starts.0 starts.1
    ∙ ap plain_value same

pub returns-in-Ok-clause-spelled : goal.returns-in-Ok-clause-spelled
returns-in-Ok-clause-spelled c =
    let same = c.in-Ok.ensures.cases.0 in
    let starts = rw (sym same) at (c.if-not-starts_plain.ensures.yes refl) in
    rw (c.ok.ensures.value, sym same)
    (plain_parsed c.in-Ok.text.now c.parse.result c.parse.ensures.value.0 starts.0 starts.1)

pub returns-in-Err-clause-number : goal.returns-in-Err-clause-number
returns-in-Err-clause-number c = sym (plain_none c.args.text.now (plain_not_utf8 c.args.text.now c.in-Err.ensures.cases.0))

pub returns-in-Err-clause-spelled : goal.returns-in-Err-clause-spelled
returns-in-Err-clause-spelled c = plain_not_utf8 c.args.text.now c.in-Err.ensures.cases.0
