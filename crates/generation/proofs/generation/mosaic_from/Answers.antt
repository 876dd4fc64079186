use Rattle.std.proofs.Common.{subst}
use Rattle.allsky_mosaic.specs.Tiles.{AreOfOrder3}
use Rattle.pyramid_model.specs.Shape.{PyramidShape}
use Rattle.generation.specs.Files.{leaf_map}
use Rattle.generation.proofs.Mosaics.{order_3_tiles}
use Rattle.generation.proofs.generation.mosaic_from.Goals as goal

pub patched_file-requires-clause-tiles : goal.patched_file-requires-clause-tiles
patched_file-requires-clause-tiles c =
    subst (λ (s : PyramidShape). AreOfOrder3 s.depth s.n c.in-Some.tiles.now) c.requires.shape
    (order_3_tiles c.args.pyramid.now.shape (leaf_map c.args.pyramid.now.leaves) c.in-Some.tiles.now c.in-Some.ensures.tiles.2)
