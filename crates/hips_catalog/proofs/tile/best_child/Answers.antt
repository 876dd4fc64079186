use Rattle.std.proofs.Common.{◌≡◌, List, subst}
use Rattle.std.specs.Prelude.{Option, option_map, option_copied}
use Rattle.std.specs.Borrow.{Bor}
use Rattle.healpix_nested.specs.Cells.{NestedCell}
use Rattle.hips_catalog.specs.Tiles.{IsBest, IsBestTile}
use Rattle.hips_catalog.specs.declared.tile.Tile.{Tile}
use Rattle.hips_catalog.proofs.tile.best_child.Goals as goal

best_cell : (ts : List Tile) (found best : Option (Bor Tile)) (cells : List NestedCell) → found ≡ best → IsBestTile ts (option_copied found) cells → IsBest ts (option_map (λ t. t.cell) (option_copied best)) cells
best_cell ts found best cells e b = subst (λ o. IsBest ts (option_map (λ t. t.cell) (option_copied o)) cells) e b.cell

pub returns-in-Some : goal.returns-in-Some
returns-in-Some c = best_cell c.args.tiles.now c.best_tile.result _ _ c.in-Some.is c.best_tile.ensures

pub returns-in-None : goal.returns-in-None
returns-in-None c = best_cell c.args.tiles.now c.best_tile.result _ _ c.in-None.is c.best_tile.ensures
