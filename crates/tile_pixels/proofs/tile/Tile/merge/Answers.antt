use Rattle.std.proofs.Common.{option_map, refl}
use Rattle.tile_pixels.specs.Merge.{FourTiles}
use Rattle.tile_pixels.specs.Quadrants.{AreOver}
use Rattle.tile_pixels.specs.declared.quadrant.Quadrant.TheVariants.{Merged}
use Rattle.tile_pixels.specs.declared.quadrant.Quadrants.{Quadrants}
use Rattle.tile_pixels.proofs.Kept.{whole, whole_pixels}
use Rattle.tile_pixels.proofs.tile.Tile.merge.Goals as goal

pub returns : goal.returns
returns c =
    let tiles : FourTiles = record { first = option_map (λ t. t.now.numbers) c.args.c0; second = option_map (λ t. t.now.numbers) c.args.c1; third = option_map (λ t. t.now.numbers) c.args.c2; fourth = option_map (λ t. t.now.numbers) c.args.c3 } in
    let quadrants : Quadrants = record { first = Merged c.args.c0; second = Merged c.args.c1; third = Merged c.args.c2; fourth = Merged c.args.c3 } in
    let over : AreOver c.args.depth c.args.n tiles quadrants = record { first = refl; second = refl; third = refl; fourth = refl } in
    let is = whole c.merge_quadrants.result c.args.depth c.args.n tiles quadrants over c.merge_quadrants.ensures.tile in
    record {
      tile = is;
      pixels = λ shape leaves k p depth_is n_is above shows. whole_pixels c.merge_quadrants.result c.args.depth c.args.n tiles shape leaves k p c.requires.greatest_n depth_is n_is above shows is;
    }
