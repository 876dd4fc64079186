use Rattle.std.proofs.Common.{◌≡◌, true, false, ◌∙◌}
use Rattle.hips_catalog.specs.Reading.{is_id}
use Rattle.hips_catalog.specs.Catalogue.{has_id}
use Rattle.catalog_command.proofs.Answering.{without_none, absent_removal}
use Rattle.catalog_command.proofs.line.remove.Goals as goal

pub returns-in-Ok-false-clause-answered : goal.returns-in-Ok-false-clause-answered
returns-in-Ok-false-clause-answered c =
    let test : is_id c.args.id.now ≡ true = cc in
    let none : has_id c.args.id.now c.args.catalog.now.rows ≡ false = cc in
    (absent_removal c.args.catalog.now c.args.id.now test none, c.remove.ensures.done ∙ without_none c.args.id.now c.args.catalog.now none)
