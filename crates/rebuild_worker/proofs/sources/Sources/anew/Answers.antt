use Rattle.std.proofs.Common.{[], List, ℕ, subst, sym, arith}
use Rattle.tile_pixels.specs.Tile.{PixelTile}
use Rattle.rebuild_worker.specs.Changed.{StoodOver}
use Rattle.rebuild_worker.proofs.Stood.{nothing_stood}
use Rattle.rebuild_worker.proofs.sources.Sources.anew.Goals as goal

pub returns-clause-sources : goal.returns-clause-sources
returns-clause-sources c shape has = record {
  children = has;
  ascending = λ k h. absurd (omega arith);
  height = omega arith;
  stood = let P : List (ℕ × PixelTile) → Type 0 = λ before. StoodOver shape c.args.children.now [] 0 before in subst P (sym c.requires) (nothing_stood shape c.args.children.now [] 0);
}
