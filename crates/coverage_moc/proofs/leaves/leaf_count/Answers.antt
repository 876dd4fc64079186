use Rattle.coverage_moc.specs.Cover.{leaves_under}
use Rattle.coverage_moc.proofs.TreeLemmas.{up-itself}
use Rattle.coverage_moc.proofs.CanonLemmas.{cover_few, all_maximal}
use Rattle.coverage_moc.proofs.CountLemmas.{maximal_11}
use Rattle.coverage_moc.proofs.leaves.leaf_count.Goals as goal

pub cell_count-requires : goal.cell_count-requires
cell_count-requires c =
    let cells = leaves_under c.args.top c.args.rows.now in
    record {
      order = c.requires.top;
      ascending = up-itself c.args.top c.args.rows.now cells c.requires.rows;
      few = cover_few c.args.top c.args.rows.now cells c.requires.top c.requires.rows;
      alone = maximal_11 c.args.top c.args.rows.now c.requires.top (all_maximal c.args.top c.args.rows.now cells c.requires.rows);
    }
