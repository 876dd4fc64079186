use Rattle.tile_path.proofs.WriteLemmas.{written_part}
use Rattle.tile_path.proofs.write.write.Goals as goal

pub returns : goal.returns
returns c =
    written_part c.args.out.now c.args.bytes.now c.copy_from_slice.new.self c.args.start c.requires c.copy_from_slice.ensures.after
