use Rattle.std.proofs.Common.{◌∙◌}
use Rattle.shelf_io.proofs.WriteLemmas.{others_after_put}
use Rattle.shelf_io.proofs.exporting.write_file.Goals as goal

pub returns-in-Written-clause-others : goal.returns-in-Written-clause-others
returns-in-Written-clause-others g c =
    others_after_put c.put.result c.args.path.now c.deref.result.now _ (g.H.Shelf.files c.args.shelf.now) (g.H.Shelf.files c.put.new.self) c.requires.path (c.deref.ensures ∙ c.in_ok-text.ensures.text) c.put.ensures.done c.put.ensures.refused

pub returns-clause-others : goal.returns-clause-others
returns-clause-others g c =
    others_after_put c.put-in-Kept.result c.args.path.now c.deref-in-Kept.result.now _ (g.H.Shelf.files c.args.shelf.now) (g.H.Shelf.files c.put-in-Kept.new.self) c.requires.path (c.deref-in-Kept.ensures ∙ c.in_ok-text.ensures.text) c.put-in-Kept.ensures.done c.put-in-Kept.ensures.refused
