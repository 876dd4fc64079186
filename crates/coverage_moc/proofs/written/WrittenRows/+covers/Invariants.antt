use Rattle.coverage_moc.proofs.written.WrittenRows.+covers.Given as goal

abbrev pub decreases-covers : goal.decreases-covers
decreases-covers l = l.order
