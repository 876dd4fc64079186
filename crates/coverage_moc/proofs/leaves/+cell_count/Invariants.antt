use Rattle.coverage_moc.proofs.leaves.+cell_count.Given as goal

abbrev pub decreases-cell_count : goal.decreases-cell_count
decreases-cell_count l = l.order
