use Rattle.coverage_moc.proofs.leaves.+cells_under.Given as goal

abbrev pub decreases-cells_under : goal.decreases-cells_under
decreases-cells_under l = l.order
