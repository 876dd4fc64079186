use Rattle.coverage_moc.proofs.RowLemmas.{take_more, taken_all}
use Rattle.coverage_moc.proofs.rows.take_rows.Goals as goal

pub loop-row-preserved : goal.loop-row-preserved
loop-row-preserved c = (c.take_row.ensures.ascending, take_more c.args.gone.now c.loop-row.row-index c.args.rows.now.items c.loop-row.rows.items c.take_row.new.rows.items c.loop-row-test.true c.take_row.ensures.taken c.loop-row.invariant.1)

pub returns-clause-taken : goal.returns-clause-taken
returns-clause-taken c = taken_all c.args.gone.now c.loop-row.row-index c.args.rows.now.items c.loop-row.rows.items c.loop-row-test.false c.loop-row.invariant.1
