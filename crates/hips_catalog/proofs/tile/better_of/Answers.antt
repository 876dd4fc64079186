use Rattle.std.proofs.Common.{◌≡◌, ◌∷◌, subst, sym}
use Rattle.std.specs.Prelude.{Some, option_copied}
use Rattle.healpix_nested.specs.Cells.{NestedCell}
use Rattle.hips_catalog.specs.Tiles.{IsBestTile, rows_at, sources}
use Rattle.hips_catalog.proofs.Listed.{gap_rows}
use Rattle.hips_catalog.proofs.Best.{tile_none, tile_with_rows, tile_better, tile_worse}
use Rattle.hips_catalog.proofs.tile.better_of.Goals as goal

pub returns-in-Err : goal.returns-in-Err
returns-in-Err c cells b = tile_none c.args.tiles.now (option_copied c.args.best) c.args.child cells (gap_rows c.args.tiles.now c.in-Err.field-0 c.args.child c.requires c.in-Err.ensures.gap) b

pub returns-in-None : goal.returns-in-None
returns-in-None c cells b =
    subst (λ (d : NestedCell). IsBestTile c.args.tiles.now (option_copied c.with_rows.result) (d ∷ cells)) c.in-Ok.ensures.cell
    (tile_with_rows c.args.tiles.now c.in-Ok.tile.now c.with_rows.result cells
    (subst (λ (d : NestedCell). rows_at c.args.tiles.now d.order d.npix ≡ sources c.in-Ok.tile.now.rows) (sym c.in-Ok.ensures.cell) c.in-Ok.ensures.rows)
    c.with_rows.ensures.some c.with_rows.ensures.none (subst (λ o. IsBestTile c.args.tiles.now (option_copied o) cells) c.in-None.is b))

pub returns-then-begins_better : goal.returns-then-begins_better
returns-then-begins_better c cells b =
    subst (λ (d : NestedCell). IsBestTile c.args.tiles.now (Some c.in-Ok.tile.now) (d ∷ cells)) c.in-Ok.ensures.cell
    (tile_better c.args.tiles.now c.in-Some.other.now c.in-Ok.tile.now cells c.begins_better.result
    (subst (λ (d : NestedCell). rows_at c.args.tiles.now d.order d.npix ≡ sources c.in-Ok.tile.now.rows) (sym c.in-Ok.ensures.cell) c.in-Ok.ensures.rows)
    c.begins_better.ensures c.if-begins_better.true (subst (λ o. IsBestTile c.args.tiles.now (option_copied o) cells) c.in-Some.is b))

pub returns-else-begins_better : goal.returns-else-begins_better
returns-else-begins_better c cells b =
    subst (λ o. IsBestTile c.args.tiles.now (option_copied o) (c.args.child ∷ cells)) (sym c.in-Some.is)
    (subst (λ (d : NestedCell). IsBestTile c.args.tiles.now (Some c.in-Some.other.now) (d ∷ cells)) c.in-Ok.ensures.cell
    (tile_worse c.args.tiles.now c.in-Some.other.now c.in-Ok.tile.now cells c.begins_better.result
    (subst (λ (d : NestedCell). rows_at c.args.tiles.now d.order d.npix ≡ sources c.in-Ok.tile.now.rows) (sym c.in-Ok.ensures.cell) c.in-Ok.ensures.rows)
    c.begins_better.ensures c.if-begins_better.false (subst (λ o. IsBestTile c.args.tiles.now (option_copied o) cells) c.in-Some.is b)))
