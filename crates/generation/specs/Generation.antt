-- A generation as contracts see it.
use Rattle.std.specs.Prelude.{ℕ}
use Rattle.survey_conf.specs.Description.{Description}
use Rattle.edit_journal.specs.Leaves.{LeafTiles}

-- the description of its survey, how many of the survey's edits it has, and the leaves after these
pub record GenerationContent : Type 0 where
  pub conf : Description
  pub prefix : ℕ
  pub leaves : LeafTiles
