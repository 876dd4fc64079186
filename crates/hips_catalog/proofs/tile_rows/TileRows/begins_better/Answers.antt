use Rattle.std.proofs.Common.{◌≡◌, true, false, sym, ◌∙◌, subst}
use Rattle.std.specs.Prelude.{slice_get, Some}
use Rattle.hips_catalog.specs.Ends.{begins_better}
use Rattle.hips_catalog.specs.Tiles.{sources}
use Rattle.hips_catalog.proofs.Ends.{lower_first, higher_first}
use Rattle.hips_catalog.proofs.tile_rows.TileRows.begins_better.Goals as goal

pub returns-then-self-others : goal.returns-then-self-others
returns-then-self-others c z e =
    subst (λ xs. true ≡ begins_better (sources xs) z) c.self.view_is
    (lower_first c.self.inside.list c.others.inside.list c.self.inside.first c.others.inside.first c.self.invariant.first_is c.others.invariant.first_is
    (λ e. c.if-len-eq0.false (c.len.ensures ∙ e)) c.if-self-others.true z (subst (λ xs. slice_get (sources xs) 0 ≡ Some z) (sym c.others.view_is) e))

pub returns-then-others-self : goal.returns-then-others-self
returns-then-others-self c z e =
    subst (λ xs. false ≡ begins_better (sources xs) z) c.self.view_is
    (higher_first c.self.inside.list c.others.inside.list c.self.inside.first c.others.inside.first c.self.invariant.first_is c.others.invariant.first_is
    c.if-others-self.true z (subst (λ xs. slice_get (sources xs) 0 ≡ Some z) (sym c.others.view_is) e))
