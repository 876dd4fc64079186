use Rattle.std_link.proofs.Folders.{others_from_remove, others_from_try, others_joined, put_joined}
use Rattle.std_link.proofs.folder.put_by_way_of.Goals as goal

pub returns-in-Ok-clause-done : goal.returns-in-Ok-clause-done
returns-in-Ok-clause-done g c =
    let cleared = others_from_remove c.args.beside.now (g.F.Folder.files c.args.folder.now) (g.F.Folder.files c.make_way.new.self) (g.F.Folder.files c.remove.new.self) c.make_way.ensures c.in_ok-remove.ensures.done in
    put_joined c.args.path.now c.args.beside.now c.args.bytes.now _ _ _ cleared c.in-Ok.ensures.done

pub returns-in-Err-clause-refused : goal.returns-in-Err-clause-refused
returns-in-Err-clause-refused g c =
    let cleared = others_from_remove c.args.beside.now (g.F.Folder.files c.args.folder.now) (g.F.Folder.files c.make_way.new.self) (g.F.Folder.files c.remove.new.self) c.make_way.ensures c.in_ok-remove.ensures.done in
    let tried = others_from_try c.args.beside.now (g.F.Folder.files c.write_and_move.new.folder) (g.F.Folder.files c.remove-in-Err.new.self) c.remove-in-Err.result c.remove-in-Err.ensures.done c.remove-in-Err.ensures.refused in
    others_joined c.args.beside.now _ _ _ cleared (others_joined c.args.beside.now _ _ _ c.in-Err.ensures.refused tried)
