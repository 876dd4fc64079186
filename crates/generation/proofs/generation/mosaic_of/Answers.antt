use Rattle.std.proofs.Common.{subst}
use Rattle.allsky_mosaic.specs.Tiles.{AreOfOrder3}
use Rattle.pyramid_model.specs.Shape.{PyramidShape}
use Rattle.generation.specs.Files.{leaf_map}
use Rattle.generation.proofs.Mosaics.{order_3_tiles}
use Rattle.generation.proofs.generation.mosaic_of.Goals as goal

pub mosaic_file-requires-after_bounds : goal.mosaic_file-requires-after_bounds
mosaic_file-requires-after_bounds g c κs within =
    subst (λ (s : PyramidShape). AreOfOrder3 s.depth s.n c.in-Some.tiles.now) c.requires
    (order_3_tiles c.args.pyramid.now.shape (leaf_map c.args.pyramid.now.leaves) c.in-Some.tiles.now c.in-Some.ensures.tiles.2)
