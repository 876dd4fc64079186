use Rattle.shelf_io.proofs.CompareLemmas.{parts_same, front_apart, kept_apart}
use Rattle.shelf_io.proofs.verifying.are_parts.Goals as goal

pub returns-in_default : goal.returns-in_default
returns-in_default c = front_apart c.args.bytes.now c.args.front.now c.args.kept.now c.args.zeros.now c.in_default.ensures.cases

pub returns-in-None : goal.returns-in-None
returns-in-None c = kept_apart c.args.bytes.now c.args.front.now c.args.kept.now c.args.zeros.now c.in-Some.rest c.in-Some.ensures.cases c.in-None.ensures.cases

pub returns-in-Some-strip_prefix : goal.returns-in-Some-strip_prefix
returns-in-Some-strip_prefix c =
    parts_same c.args.bytes.now c.args.front.now c.args.kept.now c.args.zeros.now c.in-Some.rest c.in-Some-strip_prefix.rest c.eq.result c.in-Some.ensures.cases c.in-Some-strip_prefix.ensures.cases c.eq.ensures
