use Rattle.std.proofs.Common.{ap}
use Rattle.std.specs.Prelude.{Err}
use Rattle.hips_mirror.proofs.CoverLemmas.{covered_ok, rising_ok, covered_err, no_cover}
use Rattle.hips_mirror.proofs.cover.leaves_covered.Goals as goal

pub returns-in-Ok-clause-covered : goal.returns-in-Ok-clause-covered
returns-in-Ok-clause-covered c =
    covered_ok c.args.conf.now c.shape-shape.result c.shape.inside.top c.args.body.now c.in-Ok.cover.rows c.shape-shape.ensures.shape (ap (λ s. s.top) c.shape.view_is) c.in-Ok.ensures.file c.in-Ok.ensures.cover c.bounded_leaves.result c.bounded_leaves.ensures.leaves

pub returns-in-Ok-clause-ascending : goal.returns-in-Ok-clause-ascending
returns-in-Ok-clause-ascending c =
    rising_ok c.args.conf.now c.shape-shape.result c.shape.inside.top c.args.body.now c.in-Ok.cover.rows c.shape-shape.ensures.shape (ap (λ s. s.top) c.shape.view_is) c.in-Ok.ensures.file c.in-Ok.ensures.cover c.bounded_leaves.result c.bounded_leaves.ensures.leaves

pub returns-in-Ok-clause-refused : goal.returns-in-Ok-clause-refused
returns-in-Ok-clause-refused c =
    covered_err c.args.conf.now c.shape-shape.result c.shape.inside.top c.args.body.now c.in-Ok.cover.rows c.shape-shape.ensures.shape (ap (λ s. s.top) c.shape.view_is) c.in-Ok.ensures.file c.in-Ok.ensures.cover c.bounded_leaves.result c.bounded_leaves.ensures.refused

pub returns-in-Err-NotCover-clause-refused : goal.returns-in-Err-NotCover-clause-refused
returns-in-Err-NotCover-clause-refused c =
    no_cover c.args.conf.now c.shape-shape.result c.shape.inside.top c.args.body.now c.shape-shape.ensures.shape (ap (λ s. s.top) c.shape.view_is) (c.in-Err-NotCover.ensures.refused (ap Err c.in-Err-NotCover.field-0-is))
