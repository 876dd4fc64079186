use Rattle.std.proofs.Common.{◌≤◌, ◌^◌, arith}
use Rattle.tile_pixels.proofs.Tiles.{side_at_most}
use Rattle.tile_pixels.proofs.tile.Tile.side.Goals as goal

pub returns-clause-at_most : goal.returns-clause-at_most
returns-clause-at_most c =
    let most : 2 ^ c.self.inside.n ≤ 512 = side_at_most c.self.inside.n (c.self.invariant.0.greatest_n) in
    omega arith
