use Rattle.std.proofs.lemmas.Result.{err_from_is_err_and}
use Rattle.catalog_command.specs.declared.counts.Counts.{Counts}
use Rattle.catalog_command.proofs.Outcomes.{nothing_read, reading_counts}
use Rattle.catalog_command.proofs.command.put_catalog.Goals as goal

pub returns-in_err-catalog-clause-shelf_fault : goal.returns-in_err-catalog-clause-shelf_fault
returns-in_err-catalog-clause-shelf_fault g c =
    let p = err_from_is_err_and c.from_residual.result c.from_residual.ensures.1 in
    let same = reading_counts Counts c.in_err-catalog.field-0.0 (g.H.Shelf.faults c.args.shelf.now) c.in_err-catalog.ensures.kinds in
    rw (p.1, p.2) same

pub returns-in_err-catalog-clause-outcome : goal.returns-in_err-catalog-clause-outcome
returns-in_err-catalog-clause-outcome g c =
    let p = err_from_is_err_and c.from_residual.result c.from_residual.ensures.1 in
    let files = g.H.Shelf.files c.args.shelf.now in
    let is = nothing_read c.args.top c.args.per_tile (g.S.Source.left c.args.source.now) (g.S.Source.left c.read_catalog.new.source) files files c.in_err-catalog.field-0.0 c.in_err-catalog.ensures.stopped in
    rw (p.1, p.2) is
