use Rattle.std.proofs.Common.{subst}
use Rattle.fits_tile.specs.Reading.{reads}
use Rattle.fits_tile.specs.Refused.{IsRefusedBy}
use Rattle.hips_mirror.proofs.LeavesLemmas.{wrong_leaf}
use Rattle.hips_mirror.proofs.leaves.read_tile.Goals as goal

pub returns-in-Err-Fault-clause-refused : goal.returns-in-Err-Fault-clause-refused
returns-in-Err-Fault-clause-refused c =
    wrong_leaf c.args.conf.now c.leaf_cell-cell.result c.args.number c.in-Err-Fault.fault c.args.body.now c.leaf_cell-cell.ensures.order c.leaf_cell-cell.ensures.npix
    (subst (IsRefusedBy (reads c.args.conf.now c.args.body.now)) c.in-Err-Fault.field-0-is c.in-Err-Fault.ensures.refused)
