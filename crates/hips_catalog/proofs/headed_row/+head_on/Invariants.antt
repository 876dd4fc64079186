use Rattle.hips_catalog.proofs.headed_row.+head_on.Given as goal

abbrev pub decreases-head_on : goal.decreases-head_on
decreases-head_on l = l.count
