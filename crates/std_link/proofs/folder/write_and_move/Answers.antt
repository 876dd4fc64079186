use Rattle.std_link.proofs.Folders.{put_from_move, others_from_write}
use Rattle.std_link.proofs.folder.write_and_move.Goals as goal

pub returns-clause-done : goal.returns-clause-done
returns-clause-done g c =
    put_from_move c.args.path.now c.args.beside.now c.args.bytes.now (g.F.Folder.files c.args.folder.now) (g.F.Folder.files c.write_new.new.self)
    (g.F.Folder.files c.rename.new.self) c.rename.result c.requires c.in_ok-write_new.ensures.done c.rename.ensures.done

pub returns-clause-refused : goal.returns-clause-refused
returns-clause-refused g c =
    others_from_write c.args.beside.now c.args.bytes.now (g.F.Folder.files c.args.folder.now) (g.F.Folder.files c.write_new.new.self)
    (g.F.Folder.files c.rename.new.self) c.rename.result c.in_ok-write_new.ensures.done c.rename.ensures.refused
