use Rattle.std.proofs.Common.{◌≡◌, ◌≤◌, ap, subst, ◌∙◌, arith}
use Rattle.std.specs.Prelude.{MatchOption}
use Rattle.std.specs.Arc.{arc_value}
use Rattle.leaf_store.specs.Store.{value_at}
use Rattle.generation.specs.Files.{leaf_map}
use Rattle.generation.specs.Kept.{HasTile}
use Rattle.generation.proofs.Orders.{found_tile, exists_in_order}
use Rattle.generation.proofs.pyramid.Pyramid.tile.Goals as goal
use Rattle.tile_pixels.specs.Tile.{tile_of}

pub returns-in-Some : goal.returns-in-Some
returns-in-Some c =
    let shape = c.args.self.now.shape in
    let leaves = leaf_map c.args.self.now.leaves in
    let top : shape.top ≤ 11 = c.in-Some.ensures.shape.greatest_top in
    let found = found_tile (λ t. arc_value t.now) shape leaves c.order.result c.npix.result c.get.result
    (exists_in_order shape leaves c.order.result c.npix.result (omega arith) c.in-Some.ensures.numbers.cells)
    c.in-Some.ensures.tiles.0 c.in-Some.ensures.tiles.1 (c.get.ensures.value ∙ ap (value_at c.npix.result) c.in-Some.ensures.tiles.2) in
    subst (λ p. MatchOption c.get.result (HasTile shape leaves c.args.cell.order p → ⊥) (λ t. HasTile shape leaves c.args.cell.order p × (arc_value t.now ≡ tile_of shape leaves c.args.cell.order p))) c.npix.ensures.npix
    (subst (λ k. MatchOption c.get.result (HasTile shape leaves k c.npix.result → ⊥) (λ t. HasTile shape leaves k c.npix.result × (arc_value t.now ≡ tile_of shape leaves k c.npix.result))) c.order.ensures.order found)
