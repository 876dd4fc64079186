use Rattle.std.proofs.Common.{◌≡◌, ◌-◌, ◌/◌, ◌^◌, sym, ap, subst, ◌∙◌}
use Rattle.std.specs.Prelude.{All, Contains}
use Rattle.std.specs.Arc.{arc_value}
use Rattle.pyramid_model.specs.Shape.{PyramidShape, IsShape, FitsShape}
use Rattle.survey_conf.specs.Description.{Description}
use Rattle.generation.specs.Files.{leaf_map}
use Rattle.generation.specs.Generation.{GenerationContent}
use Rattle.generation.specs.Kept.{SameOrder3, PyramidContent}
use Rattle.generation.proofs.Pyramids.{fits_shape, same_order_3}
use Rattle.generation.proofs.generation.Generation.next.Goals as goal

pub mosaic_after-requires-clause-same : goal.mosaic_after-requires-clause-same
mosaic_after-requires-clause-same g c κs within =
    let d = c.args.self.now.conf in
    let old = c.args.self.now.leaves in
    let new = c.in_ok-changes.changes.leaves in
    let touched = c.in_ok-changes.changes.touched.items in
    let cells = c.in_ok-cells.cells.items in
    let conf_is : arc_value c.self.inside.conf ≡ d = ap (λ (v : GenerationContent). v.conf) c.self.view_is in
    let known : IsShape d.shape.top d.shape.low d.shape.n = subst (λ (e : Description). IsShape e.shape.top e.shape.low e.shape.n) conf_is c.self.invariant.description.shape in
    let numbers : FitsShape d.shape (leaf_map new) = fits_shape d.shape new c.in_ok-changes.ensures.fits c.in_ok-changes.ensures.tiles in
    let shape_is = c.cells_over.view_is ∙ c.shape.ensures.shape ∙ ap (λ (e : Description). e.shape) (c.deref.ensures ∙ conf_is) in
    let over : All (λ leaf. Contains cells (leaf / 4 ^ (d.shape.top - 3))) touched =
    subst (λ leaves. All (λ leaf. Contains cells (leaf / 4 ^ (d.shape.top - 3))) leaves) c.deref-2.ensures.value
    (subst (λ (s : PyramidShape). All (λ leaf. Contains cells (leaf / 4 ^ (s.top - 3))) c.deref-2.result.now) shape_is c.in_ok-cells.ensures.over) in
    let same : SameOrder3 d.shape cells (leaf_map old) (leaf_map new) = same_order_3 d.shape old new touched cells known numbers c.in_ok-changes.ensures.same over in
    let leaves_are : c.in_ok-pyramid.pyramid.leaves ≡ new = ap (λ (p : PyramidContent). p.leaves) c.in_ok-pyramid.ensures.made in
    subst (λ l. SameOrder3 d.shape c.deref-3.result.now (leaf_map old) (leaf_map l)) (sym leaves_are)
    (subst (λ cs. SameOrder3 d.shape cs (leaf_map old) (leaf_map new)) (sym c.deref-3.ensures.value) same)
