use Rattle.hipsd_run.proofs.CommandLemmas.{no_make_command, no_catalog_command}
use Rattle.hipsd_run.proofs.command.read_two.Goals as goal

pub returns-in-make-clause-none : goal.returns-in-make-clause-none
returns-in-make-clause-none c = rw c.in-make.is (no_make_command c.read_make.result c.args.word.now c.args.other.now c.read_make.ensures.none)

pub returns-in-catalog-clause-none : goal.returns-in-catalog-clause-none
returns-in-catalog-clause-none c = rw c.in-catalog.is (no_catalog_command c.read_catalog.result c.args.word.now c.args.other.now c.read_catalog.ensures.none)
