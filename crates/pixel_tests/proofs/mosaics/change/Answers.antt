use Rattle.std.proofs.Common.{ℕ, ◌<◌, List, sym, subst}
use Rattle.std.specs.BTreeMap.{is_at}
use Rattle.std.specs.Ordering.{nat_cmp}
use Rattle.std.proofs.lemmas.Map.Views.{All-values-insert_entry, All-keys-insert_entry, All-map-remove_entry}
use Rattle.tile_pixels.specs.Tile.{PixelTile, HasShape}
use Rattle.allsky_mosaic.specs.Tiles.{AreOfOrder3}
use Rattle.pixel_tests.proofs.mosaics.change.Goals as goal

pub returns-in_ok-put-in-Some-clause-tiles : goal.returns-in_ok-put-in-Some-clause-tiles
returns-in_ok-put-in-Some-clause-tiles c =
    let P : List (ℕ × PixelTile) → Type 0 = λ tiles. AreOfOrder3 c.args.depth 1 tiles in
    subst P (sym c.in_ok-put-in-Some.ensures.put) (record {
      cells = All-keys-insert_entry nat_cmp _ _ (λ k. k < 768) c.args.tiles.now c.requires.tiles.cells c.requires.cell;
      shapes = All-values-insert_entry nat_cmp _ _ (λ tile. HasShape tile c.args.depth 1) c.args.tiles.now c.requires.tiles.shapes c.in_ok-tile-in-Some.ensures;
    })

pub returns-in_ok-remove-in-None-clause-tiles : goal.returns-in_ok-remove-in-None-clause-tiles
returns-in_ok-remove-in-None-clause-tiles c =
    let P : List (ℕ × PixelTile) → Type 0 = λ tiles. AreOfOrder3 c.args.depth 1 tiles in
    subst P (sym c.in_ok-remove-in-None.ensures.removed) (record {
      cells = All-map-remove_entry (is_at (nat_cmp c.args.cell)) (λ e. e.0) (λ k. k < 768) c.args.tiles.now c.requires.tiles.cells;
      shapes = All-map-remove_entry (is_at (nat_cmp c.args.cell)) (λ e. e.1) (λ tile. HasShape tile c.args.depth 1) c.args.tiles.now c.requires.tiles.shapes;
    })
