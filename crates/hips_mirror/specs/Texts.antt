-- The texts of refusals.
use Rattle.std.specs.Prelude.{ℕ, List, ◌++◌, codes, decimal}
use Rattle.fits_tile.specs.Faults.{fault_text as tile_fault_text}
use Rattle.tile_path.specs.Spelling.{spelling}
use Rattle.tile_path.specs.declared.path.Path.TheVariants.{Tile as TilePath}
use Rattle.hips_mirror.specs.declared.refusal.MirrorRefusal.{MirrorRefusal}
use Rattle.hips_mirror.specs.declared.refusal.MirrorRefusal.TheVariants.{Reply, Properties, Cover, TooLarge, Leaf, Differs, Cut, ReadFault, WriteFault, ShelfFault, OutOfMemory}

-- why no survey was copied
abbrev pub mirror_text : MirrorRefusal → List ℕ
mirror_text (Reply request) = codes "reply " ++ decimal request
mirror_text Properties = codes "properties"
mirror_text Cover = codes "cover"
mirror_text (TooLarge leaves) = codes "leaves " ++ decimal leaves
mirror_text (Leaf cell fault) = codes "tile " ++ (spelling (TilePath cell) ++ (codes " " ++ tile_fault_text fault))
mirror_text (Differs path) = codes "differs " ++ spelling path
mirror_text Cut = codes "cut"
mirror_text ReadFault = codes "the source failed"
mirror_text WriteFault = codes "the sink failed"
mirror_text ShelfFault = codes "the shelf failed"
mirror_text OutOfMemory = codes "out of memory"
