use Rattle.std.proofs.Common.{refl}
use Rattle.size_run.proofs.mosaics.patched.Goals as goal

pub patch-requires-clause-old : goal.patch-requires-clause-old
patch-requires-clause-old c = (
  c.args.tiles.now,
  record {
    tiles = c.requires.tiles;
    agrees = λ cell untouched. refl;
    mosaic = c.requires.old;
  },
)
