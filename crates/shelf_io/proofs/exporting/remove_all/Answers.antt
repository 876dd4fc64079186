use Rattle.std.proofs.Common.{◌≡◌, ◌∙◌, ap, subst, sym}
use Rattle.tile_path.specs.Spelling.{IsPath, spelling}
use Rattle.survey_link.specs.Shelf.{without_file}
use Rattle.shelf_io.specs.Survey.{OthersStay}
use Rattle.shelf_io.proofs.WriteLemmas.{left_next, others_trans, others_removed}
use Rattle.shelf_io.proofs.exporting.remove_all.Goals as goal

pub loop-path-preserved : goal.loop-path-preserved
loop-path-preserved g c =
    let start = g.H.Shelf.files c.args.shelf.now in
    let old = g.H.Shelf.files c.loop-path.shelf in
    let is : IsPath c.path-item.result = subst IsPath (sym c.path-item.is) (c.requires c.loop-path.path-index c.path-item.result c.loop-path-test.true) in
    let spelled : c.deref.result.now ≡ spelling c.path-item.result = c.deref.ensures ∙ c.in_ok-text.ensures.text in
    let removed : g.H.Shelf.files c.remove.new.self ≡ without_file (spelling c.path-item.result) old = c.in_ok-remove.ensures.done ∙ ap (λ t. without_file t old) spelled in
    record {
      left = left_next c.args.paths.now c.loop-path.path-index c.path-item.result start old (g.H.Shelf.files c.remove.new.self) c.loop-path-test.true c.path-item.is c.loop-path.invariant.left removed;
      others = others_trans start old (g.H.Shelf.files c.remove.new.self) c.loop-path.invariant.others (subst (OthersStay old) (sym removed) (others_removed c.path-item.result old is));
      faults = c.in_ok-remove.ensures.faults ∙ c.loop-path.invariant.faults;
    }
