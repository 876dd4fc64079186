use Rattle.std.proofs.Common.{ap, sym, ◌∙◌}
use Rattle.std.specs.Prelude.{option_copied}
use Rattle.std.specs.Arc.{arc_value}
use Rattle.hips_catalog.specs.Rows.{is_better}
use Rattle.hips_catalog.proofs.Ends.{both_first}
use Rattle.hips_catalog.proofs.tile_rows.first_is_better.Goals as goal

pub returns-in-Some-get : goal.returns-in-Some-get
returns-in-Some-get c z e =
    c.is_better.ensures ∙ ap (λ s. is_better (arc_value c.in-Some.row.now) s) c.row.ensures
    ∙ both_first c.args.rows.now c.args.others.now c.in-Some.row.now c.in-Some-get.other.now
    (sym (ap option_copied c.in-Some.is) ∙ c.get.ensures) (sym (ap option_copied c.in-Some-get.is) ∙ c.get-in-Some.ensures) z e
