use Rattle.std.proofs.Common.{◌≡◌, ◌+◌, ◌-◌, ◌*◌, ◌^◌, ◌<◌, ◌∙◌, ap, arith}
use Rattle.pyramid_model.proofs.Quads.{end_fits, cells_fit}
use Rattle.pyramid_model.proofs.LeafLemmas.{lies_under_range, list_any-leaf_map}
use Rattle.pyramid_model.proofs.plain.exists.Goals as goal

pub overflow_add-npix : goal.overflow_add-npix
overflow_add-npix c = let top_is : c.shape.inside.top ≡ c.args.shape.now.top = ap (λ s. s.top) c.shape.view_is in let fits : 12 * 4 ^ c.args.order < 2 ^ 64 = cells_fit c.args.order (omega arith) in omega arith

pub overflow_mul-npix : goal.overflow_mul-npix
overflow_mul-npix c = let top_is : c.shape.inside.top ≡ c.args.shape.now.top = ap (λ s. s.top) c.shape.view_is in let fits : (c.args.npix + 1) * 4 ^ (c.shape.inside.top - c.args.order) < 2 ^ 64 = end_fits c.args.order c.shape.inside.top c.args.npix (omega arith) (omega arith) c.requires.npix in rw c.cells_below-below.ensures.count (omega arith)

pub overflow_mul-npix-2 : goal.overflow_mul-npix-2
overflow_mul-npix-2 c = let top_is : c.shape.inside.top ≡ c.args.shape.now.top = ap (λ s. s.top) c.shape.view_is in let fits : (c.args.npix + 1) * 4 ^ (c.shape.inside.top - c.args.order) < 2 ^ 64 = end_fits c.args.order c.shape.inside.top c.args.npix (omega arith) (omega arith) c.requires.npix in rw c.cells_below-below.ensures.count (omega arith)

pub any_in-requires : goal.any_in-requires
any_in-requires c = omega arith

pub returns : goal.returns
returns c =
    let top_is : c.shape.inside.top ≡ c.args.shape.now.top = ap (λ s. s.top) c.shape.view_is in
    let below_is : c.cells_below-below.result ≡ 4 ^ (c.args.shape.now.top - c.args.order) = c.cells_below-below.ensures.count ∙ ap (λ t. 4 ^ (t - c.args.order)) top_is in
    (rw below_is at c.any_in.ensures) ∙ list_any-leaf_map _ _ (λ leaf. lies_under_range c.args.shape.now.top c.args.order c.args.npix leaf c.requires.order) c.args.leaves.now.entries
