use Rattle.std.proofs.Common.{◌≡◌, ◌+◌, ◌*◌, ◌^◌, ◌<◌, ◌≤◌, ◌∙◌, ap, arith, rules, w64, map, to_z, of_z}
use Rattle.std.specs.List.{range_with_len}
use Rattle.parent_rule.specs.Depth.{IsNumber}
use Rattle.std.proofs.lemmas.List.Elements.{All-push}
use Rattle.std.proofs.lemmas.Int.{to_z-of_z}
use Rattle.healpix_nested.specs.CellLaws.{four_pow_mono}
use Rattle.healpix_nested.specs.Place.{stored_z}
use Rattle.healpix_nested.specs.PlaceLaws.{stored_z_below}
use Rattle.pyramid_model.specs.Leaves.{leaf_map}
use Rattle.pyramid_model.proofs.ValueLemmas.{one_more_number}
use Rattle.pyramid_model.specs.Tile.{pixels, pixel_at}
use Rattle.pyramid_model.proofs.Quads.{cells_end, cells_fit, within_tile}
use Rattle.pyramid_model.proofs.plain.pixels.Goals as goal
use mir.Val.{SFits}

pub pow-count-requires : goal.pow-count-requires
pow-count-requires c = let most : 4 ^ c.shape.inside.n ≤ 4 ^ 9 = four_pow_mono c.shape.inside.n 9 (omega arith) in rw c.from.ensures (omega arith)

pub cell_at-cell-requires-clause-fits : goal.cell_at-cell-requires-clause-fits
cell_at-cell-requires-clause-fits c =
    let end : (c.args.npix + 1) * 4 ^ c.shape.inside.n ≤ 12 * 4 ^ (c.args.order + c.shape.inside.n) = cells_end c.args.order c.shape.inside.n (c.args.order + c.shape.inside.n) c.args.npix (omega arith) c.requires.npix in
    let top_is : c.shape.inside.top ≡ c.args.shape.now.top = ap (λ s. s.top) c.shape.view_is in
    let fits : 12 * 4 ^ (c.args.order + c.shape.inside.n) < 2 ^ 64 = cells_fit (c.args.order + c.shape.inside.n) (omega arith) in
    omega arith

pub value-requires-clause-cell : goal.value-requires-clause-cell
value-requires-clause-cell c = rw c.cell_at-cell.ensures (within_tile c.args.order c.shape.inside.n c.args.npix (stored_z c.shape.inside.n c.loop-place.place) c.requires.npix (stored_z_below c.shape.inside.n c.loop-place.place))

pub loop-place-preserved : goal.loop-place-preserved
loop-place-preserved c =
    let fits : SFits w64 c.value.result = search rules in
    let n_is : c.shape.inside.n ≡ c.args.shape.now.n = ap (λ s. s.n) c.shape.view_is in
    let is : c.value.result ≡ pixel_at c.args.shape.now (leaf_map c.args.leaves.now.entries) c.args.order c.args.npix c.loop-place.place = rw (c.cell_at-cell.ensures, n_is) at c.value.ensures.value in
    let number : IsNumber c.args.shape.now.depth.bitpix (to_z w64 (of_z w64 c.value.result)) = rw (to_z-of_z w64 c.value.result fits) c.value.ensures.number in (
      rw c.in_ok-push.ensures.items (All-push (IsNumber c.args.shape.now.depth.bitpix) c.loop-place.numbers.items _ c.loop-place.invariant.0 number),
      one_more_number (pixel_at c.args.shape.now (leaf_map c.args.leaves.now.entries) c.args.order c.args.npix) c.loop-place.place c.loop-place.numbers.items c.push.new.self.items _ c.loop-place.invariant.1 c.in_ok-push.ensures.items (to_z-of_z w64 c.value.result fits ∙ is),
    )

pub returns-clause-pixels : goal.returns-clause-pixels
unfolding pixels
returns-clause-pixels c =
    let count_is : c.pow-count.result ≡ 4 ^ c.args.shape.now.n = c.pow-count.ensures ∙ ap (λ n. 4 ^ n) (c.from.ensures ∙ ap (λ s. s.n) c.shape.view_is) in
    let end : c.loop-place.place ≡ 4 ^ c.args.shape.now.n = omega arith in
    c.loop-place.invariant.1 ∙ ap (λ k. map (pixel_at c.args.shape.now (leaf_map c.args.leaves.now.entries) c.args.order c.args.npix) (range_with_len 0 k)) end
