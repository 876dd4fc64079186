use Rattle.std.proofs.Common.{◌≡◌, ◌∙◌, sym, true, Bool, Option, Some, None}
use Rattle.std.specs.Prelude.{IfSome}
use Rattle.survey_link.specs.Shelf.{ShelfFiles}
use Rattle.tile_path.specs.declared.path.Path.{Path}
use Rattle.generation.specs.Files.{files_in}
use Rattle.shelf_io.specs.Survey.{AgreeAt}
use Rattle.shelf_io.specs.Comparing.{agrees_at}
use Rattle.shelf_io.proofs.CompareLemmas.{agrees_true}
use Rattle.shelf_io.proofs.WriteLemmas.{there_already}
use Rattle.shelf_io.proofs.exporting.settle_file.Goals as goal

agreed : (survey : ShelfFiles) (path : Path) (files : Option ShelfFiles) (agree : Bool) → agree ≡ true → IfSome files (λ fs. agree ≡ agrees_at survey fs path) → IfSome files (λ fs. AgreeAt survey fs path)
agreed survey path None agree true_is is = tt
agreed survey path (Some fs) agree true_is is = agrees_true survey fs path (sym is ∙ true_is)

pub returns-then-branch-clause-written : goal.returns-then-branch-clause-written
returns-then-branch-clause-written g c =
    let survey = files_in c.args.generation.now in
    let files = g.H.Shelf.files c.args.shelf.now in
    c.has_file.ensures.kept ∙ there_already survey c.args.path.now files c.requires.there (agreed survey c.args.path.now files c.in_ok-has_file.field-0 c.if-branch.true c.in_ok-has_file.ensures.agrees)
