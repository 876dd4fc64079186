use Rattle.std.proofs.Common.{◌∙◌}
use Rattle.survey_conf.proofs.RealLemmas.{read-real_zero, same-ok, never-err}
use Rattle.survey_conf.proofs.real.default_zero.Goals as goal

pub unreachable-requires : goal.unreachable-requires
unreachable-requires c = never-err _ _ _ (c.read.ensures ∙ read-real_zero) c.in-Err.is

pub returns : goal.returns
returns c = same-ok _ _ _ c.in-Ok.is (c.read.ensures ∙ read-real_zero)
