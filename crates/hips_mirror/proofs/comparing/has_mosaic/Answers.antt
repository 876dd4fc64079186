use Rattle.std.proofs.Common.{◌<◌, subst}
use Rattle.std.specs.Prelude.{All}
use Rattle.std.specs.Map.{keys_of}
use Rattle.healpix_nested.specs.Cells.{cell_count}
use Rattle.generation.specs.Files.{leaf_map}
use Rattle.hips_mirror.proofs.CompareLemmas.{mosaic_judged, mosaic_there, some_map}
use Rattle.hips_mirror.proofs.comparing.has_mosaic.Goals as goal

pub returns : goal.returns
returns c =
    mosaic_judged c.args.mosaic.now _ _ c.is_mosaic.result c.is_mosaic.ensures
    (mosaic_there c.args.generation.now.conf (leaf_map c.args.generation.now.leaves) c.conf-conf.ensures.kept.shape
    (subst (λ ls. All (λ leaf. leaf < cell_count c.args.generation.now.conf.shape.top) (keys_of (leaf_map ls))) c.leaves-leaves.ensures.leaves c.leaves-leaves.ensures.numbers.cells)
    c.spellings_differ.ensures (some_map c.args.generation.now.leaves c.requires))
