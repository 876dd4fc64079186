use Rattle.coverage_moc.specs.Cover.{leaves_under}
use Rattle.coverage_moc.proofs.CanonLemmas.{cover_few}
use Rattle.coverage_moc.proofs.file.encode_cover.Goals as goal

pub encode_rows-requires : goal.encode_rows-requires
encode_rows-requires c = cover_few c.args.top c.args.rows.now (leaves_under c.args.top c.args.rows.now) c.requires.top c.requires.rows
