use Rattle.std.proofs.Common.{◌≡◌, ◌^◌, ◌∙◌, ap, length}
use Rattle.std.specs.Ordering.{nat_cmp}
use Rattle.std.proofs.lemmas.Map.Views.{All-values-insert_entry}
use Rattle.tile_pixels.specs.Tile.{HasShape}
use Rattle.leaf_probe.specs.Probe.{probe_depth}
use Rattle.leaf_probe.proofs.leaves.keep.Goals as goal

pub returns-clause-tiles : goal.returns-clause-tiles
returns-clause-tiles c =
    let shape : HasShape c.in_ok-tile.tile probe_depth c.args.asked.now.n = (ap (λ t. t.depth) c.in_ok-tile.ensures.tile ∙ c.depth.ensures, ap (λ t. t.n) c.in_ok-tile.ensures.tile) in
    rw c.in_ok-insert.ensures.entries (All-values-insert_entry nat_cmp c.args.leaf c.in_ok-tile.tile (λ tile. HasShape tile probe_depth c.args.asked.now.n) c.args.leaves.now.entries c.requires.tiles shape)

pub returns-clause-sizes : goal.returns-clause-sizes
returns-clause-sizes c =
    let size : length c.in_ok-tile.tile.numbers ≡ 4 ^ c.args.asked.now.n = c.in_ok-tile.ensures.numbers.count ∙ ap (λ t. 4 ^ t.n) c.in_ok-tile.ensures.tile in
    rw c.in_ok-insert.ensures.entries (All-values-insert_entry nat_cmp c.args.leaf c.in_ok-tile.tile (λ tile. length tile.numbers ≡ 4 ^ c.args.asked.now.n) c.args.leaves.now.entries c.requires.sizes size)
