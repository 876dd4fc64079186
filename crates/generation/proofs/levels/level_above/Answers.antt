use Rattle.std.proofs.Common.{◌≡◌, ℕ, List, ap, ◌∙◌, subst}
use Rattle.std.specs.Prelude.{All}
use Rattle.pyramid_model.specs.Shape.{LeafMap}
use Rattle.leaf_store.specs.Store.{IsAscending, value_at}
use Rattle.rebuild_worker.specs.Level.{NamedTile, merges_of, ShowsItsCell}
use Rattle.rebuild_worker.specs.Shown.{all_shown}
use Rattle.generation.specs.Kept.{tiles_of}
use Rattle.generation.specs.Placed.{tile_after, IsStep}
use Rattle.generation.proofs.Placing.{level_is}
use Rattle.generation.proofs.Results.{if_ok_both}
use Rattle.generation.proofs.levels.level_above.Goals as goal

pub returns : goal.returns
returns g c =
    let shape = c.args.shape in
    let children = c.args.sources.children.now in
    let old = c.in_ok-old.old in
    let merges : List NamedTile = merges_of shape children c.args.todo.items in
    let shows : All (ShowsItsCell shape children) merges = subst (λ m. All (ShowsItsCell shape children) m) c.in_ok-merged.ensures.merges c.in_ok-merged.ensures.pixels in
    if_ok_both c.with_tiles.result
    (λ tiles. (cell : ℕ) → value_at cell tiles ≡ tile_after (all_shown c.deref.result.now) cell (value_at cell old))
    (λ tiles. IsAscending tiles)
    (λ tiles. (leaves : LeafMap) (order : ℕ) (touched : List ℕ) → IsStep shape leaves order touched children c.args.sources.before.now c.args.todo.items → tiles ≡ tiles_of shape leaves order)
    c.with_tiles.ensures.tiles c.with_tiles.ensures.ascending
    (λ tiles placed up leaves order touched step.
    level_is shape leaves order touched children c.args.sources.before.now c.args.todo.items step tiles up (λ cell.
    placed cell
    ∙ ap (λ m. tile_after (all_shown m) cell (value_at cell old)) c.deref.ensures.value
    ∙ ap (λ m. tile_after m cell (value_at cell old)) c.in_ok-merged.ensures.merges
    ∙ ap (λ o. tile_after merges cell (value_at cell o)) c.in_ok-old.ensures.same) shows)
