use Rattle.std.proofs.Common.{◌∙◌, refl, ap, sym, subst}
use Rattle.healpix_nested.specs.Cells.{IsCell}
use Rattle.hips_catalog.specs.Reading.{read_row}
use Rattle.catalog_command.specs.Lines.{after_row}
use Rattle.catalog_command.proofs.line.insert.Goals as goal

pub put_in-requires : goal.put_in-requires
put_in-requires c = record {
  cell = subst (λ top. IsCell top c.in-Ok.row.npix) (sym c.requires.top)
      ((c.row_is_read.ensures c.args.top c.requires.few).read c.args.line.now c.in-Ok.row c.in-Ok.ensures.read).1.npix;
}

pub returns-in-Err-Fault-clause-answered : goal.returns-in-Err-Fault-clause-answered
unfolding after_row
returns-in-Err-Fault-clause-answered c =
    let why = rw c.in-Err-Fault.field-0-is at c.in-Err-Fault.ensures.refused in
    (ap (λ top. after_row c.args.catalog.now (read_row top c.args.line.now)) c.requires.top ∙ ap (after_row c.args.catalog.now) why, refl)
