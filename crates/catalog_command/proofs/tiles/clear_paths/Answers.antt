use Rattle.std.proofs.Common.{◌+◌, Err, map, take, string_bytes, subst, ◌∙◌}
use Rattle.std.proofs.lemmas.Result.{err_from_is_err_and}
use Rattle.catalog_command.specs.Files.{OnFiles}
use Rattle.catalog_command.specs.Steps.{ClearsPath}
use Rattle.catalog_command.proofs.Shelves.{clearing_goes_on, clearing_fails, map_more}
use Rattle.survey_link.specs.Link.{CountsFault}
use Rattle.survey_link.specs.Shelf.{shelf_failed}
use Rattle.catalog_command.proofs.tiles.clear_paths.Goals as goal

pub loop-path-preserved : goal.loop-path-preserved
loop-path-preserved g c =
    let old = g.H.Shelf.files c.args.shelf.now in
    let now = g.H.Shelf.files c.loop-path.shelf in
    let new = g.H.Shelf.files c.clear_path.new.shelf in
    let step = subst (λ text. OnFiles (ClearsPath c.args.catalog.now text) now new) c.deref.ensures c.in_ok-clear_path.ensures.cleared in
    record {
      clears = clearing_goes_on c.args.catalog.now (map string_bytes (take c.loop-path.path-index c.args.paths.now)) (map string_bytes (take (c.loop-path.path-index + 1) c.args.paths.now)) (string_bytes c.path-item.result) old now new
          (map_more string_bytes c.args.paths.now c.loop-path.path-index c.path-item.result c.loop-path-test.true c.path-item.is) c.loop-path.invariant.clears step;
      faults = c.in_ok-clear_path.ensures.faults ∙ c.loop-path.invariant.faults;
    }

pub returns-in_err-clear_path-clause-faults : goal.returns-in_err-clear_path-clause-faults
returns-in_err-clear_path-clause-faults g c =
    let p = err_from_is_err_and c.from_residual.result c.from_residual.ensures.1 in
    rw (p.1, p.2) (subst (λ count. CountsFault (shelf_failed {A = Unit {0}} (Err c.in_err-clear_path.field-0.0)) count (g.H.Shelf.faults c.clear_path.new.shelf)) c.loop-path.invariant.faults c.in_err-clear_path.ensures.faults)

pub returns-in_err-clear_path-clause-refused : goal.returns-in_err-clear_path-clause-refused
returns-in_err-clear_path-clause-refused g c =
    let p = err_from_is_err_and c.from_residual.result c.from_residual.ensures.1 in
    rw p.1 (clearing_fails c.args.catalog.now (map string_bytes (take c.loop-path.path-index c.args.paths.now)) c.deref.result.now (g.H.Shelf.files c.args.shelf.now) (g.H.Shelf.files c.loop-path.shelf) (g.H.Shelf.files c.clear_path.new.shelf)
    c.loop-path.invariant.clears c.in_err-clear_path.ensures.refused)
