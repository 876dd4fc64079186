-- The texts of refusals and verdicts.
use Rattle.std.specs.Prelude.{ℕ, List, ◌++◌, codes, decimal}
use Rattle.survey_conf.specs.FaultTexts.{fault_text as conf_fault_text}
use Rattle.fits_tile.specs.Faults.{fault_text as tile_fault_text}
use Rattle.tile_path.specs.Spelling.{spelling}
use Rattle.tile_path.specs.declared.path.Path.TheVariants.{Tile as TilePath}
use Rattle.shelf_io.specs.declared.refusal.LoadRefusal.{LoadRefusal}
use Rattle.shelf_io.specs.declared.refusal.LoadRefusal.TheVariants.{NoConf, Conf, Tile, TooMany, ShelfFault, OutOfMemory}
use Rattle.shelf_io.specs.declared.verdict.Verdict.{Verdict}
use Rattle.shelf_io.specs.declared.verdict.Verdict.TheVariants.{Same, Differs}

-- why a shelf was not loaded
abbrev pub load_text : LoadRefusal → List ℕ
load_text NoConf = codes "conf absent"
load_text (Conf fault) = codes "conf " ++ conf_fault_text fault
load_text (Tile cell fault) = codes "tile " ++ (spelling (TilePath cell) ++ (codes " " ++ tile_fault_text fault))
load_text (TooMany leaves) = codes "leaves " ++ decimal leaves
load_text ShelfFault = codes "the shelf failed"
load_text OutOfMemory = codes "out of memory"

-- how a shelf compares with a survey
abbrev pub verdict_text : Verdict → List ℕ
verdict_text (Same count) = codes "verified " ++ decimal count
verdict_text (Differs path) = codes "differs " ++ spelling path
