use Rattle.std.proofs.Common.{◌≡◌, ◌+◌, ◌*◌, ◌<◌, ◌≤◌, ◌^◌, arith, ◌∙◌, ap, sym, subst₂, true, Some}
use Rattle.tile_pixels.specs.Quadrants.{Fits}
use Rattle.rebuild_worker.specs.Level.{any_of, children_of}
use Rattle.rebuild_worker.proofs.Children.{children_fit, AreLent, lent_children, any_lent}
use Rattle.rebuild_worker.proofs.Stood.{tile_is}
use Rattle.rebuild_worker.proofs.merge.merge_children.Goals as goal

pub overflow_mul-first : goal.overflow_mul-first
overflow_mul-first c =
    let top : c.shape.inside.top ≡ c.args.shape.top = ap (λ s. s.top) c.shape.view_is in
    let order : c.args.permit.order < 11 = omega arith in
    let fit : 4 * c.args.permit.npix + 4 ≤ 2 ^ 26 = children_fit c.args.permit.order c.args.permit.npix order c.requires.cell.npix in
    omega arith

pub overflow_add-second : goal.overflow_add-second
overflow_add-second c =
    let top : c.shape.inside.top ≡ c.args.shape.top = ap (λ s. s.top) c.shape.view_is in
    let order : c.args.permit.order < 11 = omega arith in
    let fit : 4 * c.args.permit.npix + 4 ≤ 2 ^ 26 = children_fit c.args.permit.order c.args.permit.npix order c.requires.cell.npix in
    omega arith

pub overflow_add-third : goal.overflow_add-third
overflow_add-third c =
    let top : c.shape.inside.top ≡ c.args.shape.top = ap (λ s. s.top) c.shape.view_is in
    let order : c.args.permit.order < 11 = omega arith in
    let fit : 4 * c.args.permit.npix + 4 ≤ 2 ^ 26 = children_fit c.args.permit.order c.args.permit.npix order c.requires.cell.npix in
    omega arith

pub overflow_add-fourth : goal.overflow_add-fourth
overflow_add-fourth c =
    let top : c.shape.inside.top ≡ c.args.shape.top = ap (λ s. s.top) c.shape.view_is in
    let order : c.args.permit.order < 11 = omega arith in
    let fit : 4 * c.args.permit.npix + 4 ≤ 2 ^ 26 = children_fit c.args.permit.order c.args.permit.npix order c.requires.cell.npix in
    omega arith

pub merge_quadrants-requires-clause-first : goal.merge_quadrants-requires-clause-first
merge_quadrants-requires-clause-first c =
    subst₂ (λ depth n. Fits depth n c.quadrant.result) (sym (ap (λ s. s.depth) c.shape.view_is)) (sym (ap (λ s. s.n) c.shape.view_is)) (c.quadrant.ensures c.args.shape c.npix-npix.result c.requires.sources (omega arith) c.lent-before.ensures c.lent-c0.ensures).0

pub merge_quadrants-requires-clause-second : goal.merge_quadrants-requires-clause-second
merge_quadrants-requires-clause-second c =
    subst₂ (λ depth n. Fits depth n c.quadrant-2.result) (sym (ap (λ s. s.depth) c.shape.view_is)) (sym (ap (λ s. s.n) c.shape.view_is)) (c.quadrant-2.ensures c.args.shape c.npix-npix.result c.requires.sources (omega arith) c.lent-before.ensures c.lent-c1.ensures).0

pub merge_quadrants-requires-clause-third : goal.merge_quadrants-requires-clause-third
merge_quadrants-requires-clause-third c =
    subst₂ (λ depth n. Fits depth n c.quadrant-3.result) (sym (ap (λ s. s.depth) c.shape.view_is)) (sym (ap (λ s. s.n) c.shape.view_is)) (c.quadrant-3.ensures c.args.shape c.npix-npix.result c.requires.sources (omega arith) c.lent-before.ensures c.lent-c2.ensures).0

pub merge_quadrants-requires-clause-fourth : goal.merge_quadrants-requires-clause-fourth
merge_quadrants-requires-clause-fourth c =
    subst₂ (λ depth n. Fits depth n c.quadrant-4.result) (sym (ap (λ s. s.depth) c.shape.view_is)) (sym (ap (λ s. s.n) c.shape.view_is)) (c.quadrant-4.ensures c.args.shape c.npix-npix.result c.requires.sources (omega arith) c.lent-before.ensures c.lent-c3.ensures).0

pub returns : goal.returns
returns c =
    let children = c.args.sources.children.now in
    let are : AreLent children c.npix-npix.result c.lent-c0.result c.lent-c1.result c.lent-c2.result c.lent-c3.result = record {
      first = c.lent-c0.ensures;
      second = c.lent-c1.ensures;
      third = c.lent-c2.ensures;
      fourth = c.lent-c3.ensures;
    } in
    let some : any_of (children_of children c.npix-npix.result) ≡ true =
    ap any_of (sym (lent_children children c.npix-npix.result c.lent-c0.result c.lent-c1.result c.lent-c2.result c.lent-c3.result are))
    ∙ any_lent c.lent-c0.result c.lent-c1.result c.lent-c2.result c.lent-c3.result ∙ sym c.any_is_there.ensures ∙ c.if-not-any_is_there.false in
    ap Some c.in_ok-new.ensures.ok
    ∙ tile_is c.args.shape children c.args.permit.npix c.npix-npix.result c.shape.inside.depth c.shape.inside.n
    (record { first = c.quadrant.result; second = c.quadrant-2.result; third = c.quadrant-3.result; fourth = c.quadrant-4.result })
    c.in_ok-tile.tile (ap (λ s. s.depth) c.shape.view_is) (ap (λ s. s.n) c.shape.view_is) c.npix-npix.ensures
    (record {
      first = (c.quadrant.ensures c.args.shape c.npix-npix.result c.requires.sources (omega arith) c.lent-before.ensures c.lent-c0.ensures).1;
      second = (c.quadrant-2.ensures c.args.shape c.npix-npix.result c.requires.sources (omega arith) c.lent-before.ensures c.lent-c1.ensures).1;
      third = (c.quadrant-3.ensures c.args.shape c.npix-npix.result c.requires.sources (omega arith) c.lent-before.ensures c.lent-c2.ensures).1;
      fourth = (c.quadrant-4.ensures c.args.shape c.npix-npix.result c.requires.sources (omega arith) c.lent-before.ensures c.lent-c3.ensures).1;
    })
    c.in_ok-tile.ensures.tile some
