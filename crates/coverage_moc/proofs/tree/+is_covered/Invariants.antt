use Rattle.coverage_moc.proofs.tree.+is_covered.Given as goal

abbrev pub decreases-is_covered : goal.decreases-is_covered
decreases-is_covered l = l.order
