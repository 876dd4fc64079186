use Rattle.coverage_moc.proofs.edit.+add_cell.Given as goal

abbrev pub decreases-add_cell : goal.decreases-add_cell
decreases-add_cell l = l.order
