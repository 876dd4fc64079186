use Rattle.std.proofs.Common.{arith}
use Rattle.coverage_moc.proofs.WrittenLemmas.{rows_are, all_written}
use Rattle.coverage_moc.proofs.written.WrittenRows.of.Goals as goal

pub returns-clause-rows : goal.returns-clause-rows
returns-clause-rows c = λ rows all holds. rows_are c.args.file.now rows c.behind_headers-numbers.result.now c.rows_before_zero-len.result c.behind_headers-numbers.ensures c.rows_before_zero-len.ensures.within c.rows_before_zero-len.ensures.before c.rows_before_zero-len.ensures.zero all holds

pub returns-clause-written : goal.returns-clause-written
returns-clause-written c = all_written c.args.file.now c.behind_headers-numbers.result.now c.rows_before_zero-len.result c.behind_headers-numbers.ensures c.rows_before_zero-len.ensures.within (λ i. let byte = c.type_inv.file i in omega (arith, byte))
