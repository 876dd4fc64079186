use Rattle.coverage_moc.proofs.edit.+remove_cell.Given as goal

abbrev pub decreases-remove_cell : goal.decreases-remove_cell
decreases-remove_cell l = l.order
