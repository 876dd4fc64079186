use Rattle.std.proofs.Common.{sym, ap, ◌∙◌}
use Rattle.decimal_scale.specs.Whole.{whole_value}
use Rattle.decimal_scale.proofs.WholeLemmas.{whole_parsed, whole_not_utf8}
use Rattle.decimal_scale.proofs.whole.whole_number.Goals as goal

pub returns-in-Ok : goal.returns-in-Ok
returns-in-Ok c =
    c.ok.ensures.value
    ∙ whole_parsed c.in-Ok.text.now c.parse.result c.parse.ensures.value.0
    ∙ ap whole_value c.in-Ok.ensures.cases.0

pub returns-in-Err : goal.returns-in-Err
returns-in-Err c = sym (whole_not_utf8 c.args.text.now c.in-Err.ensures.cases.0)
