use Rattle.std.proofs.Common.{arith}
use Rattle.std.proofs.lemmas.Grind.{common_steps}
use Rattle.decimal_scale.proofs.PlainLemmas.{StartsPlain, starts_plain}
use Rattle.decimal_scale.proofs.whole.starts_plain.Goals as goal

pub returns-in-Some-eq48-clause-no : goal.returns-in-Some-eq48-clause-no
returns-in-Some-eq48-clause-no c longer n small e =
    let starts : StartsPlain c.args.text.now = starts_plain c.args.text.now n small e in grind (arith, common_steps)

pub returns-in-Some-clause-no : goal.returns-in-Some-clause-no
returns-in-Some-clause-no c other n small e =
    let starts : StartsPlain c.args.text.now = starts_plain c.args.text.now n small e in grind (arith, common_steps)

pub returns-in-None-clause-no : goal.returns-in-None-clause-no
returns-in-None-clause-no c none n small e =
    let starts : StartsPlain c.args.text.now = starts_plain c.args.text.now n small e in grind (arith, common_steps)
