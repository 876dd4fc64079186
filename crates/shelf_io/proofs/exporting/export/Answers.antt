use Rattle.std.proofs.Common.{◌≡◌, ◌∙◌, ap, subst, arith}
use Rattle.generation.specs.Files.{paths_in, files_in}
use Rattle.shelf_io.specs.Survey.{OthersStay}
use Rattle.shelf_io.specs.Writing.{without_paths}
use Rattle.shelf_io.proofs.WriteLemmas.{exported, others_trans}
use Rattle.shelf_io.proofs.exporting.export.Goals as goal

pub returns-clause-replaced : goal.returns-clause-replaced
returns-clause-replaced g c =
    let old = g.H.Shelf.files c.args.shelf.now in
    let mid = g.H.Shelf.files c.remove_all.new.shelf in
    let new = g.H.Shelf.files c.write_all.new.shelf in
    let removed : mid ≡ without_paths c.in_ok-strays.strays.items old = c.in_ok-remove_all.ensures.removed ∙ ap (λ ps. without_paths ps (g.H.Shelf.files c.shelf_strays.new.shelf)) c.deref.ensures.value ∙ ap (without_paths c.in_ok-strays.strays.items) c.shelf_strays.ensures.kept in
    let others : OthersStay old mid = subst (λ o. OthersStay o mid) c.shelf_strays.ensures.kept c.remove_all.ensures.others in
    exported (files_in c.args.generation.now) (paths_in c.args.generation.now) c.in_ok-strays.strays.items old mid new c.in_ok-strays.ensures.strays removed c.in_ok-written.ensures.written c.in_ok-written.ensures.there
    (λ text some. let at = c.file_count-count.ensures.each text some in (at.0, omega (arith, at.1, c.file_count-count.ensures.paths), at.2))
    (others_trans old mid new others c.write_all.ensures.others)
