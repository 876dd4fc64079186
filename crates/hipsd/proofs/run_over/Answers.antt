use Rattle.std.proofs.Common.{arith}
use Rattle.hipsd_run.specs.declared.command.Command.TheVariants.{Probe as ProbeCommand}
use Rattle.hipsd.proofs.WordsLemmas.{none_for, usage_only}
use Rattle.hipsd.proofs.run_over.Goals as goal

pub returns-clause-usage : goal.returns-clause-usage
returns-clause-usage g c = λ none. (c.run.ensures.runs.usage (none_for _ _ none)).prints.ended

pub returns-clause-usage_only : goal.returns-clause-usage_only
returns-clause-usage_only g c = λ one. usage_only _ _ _ _ c.run.ensures.runs one

pub returns-clause-probe_range : goal.returns-clause-probe_range
returns-clause-probe_range g c = λ asked asks out. ((c.run.ensures.runs.run (ProbeCommand asked) asks (omega arith)).does.range out).0
