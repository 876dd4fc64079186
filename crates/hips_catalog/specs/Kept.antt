-- A catalogue as it is kept.
use Rattle.std.specs.Prelude.{◌≡◌, ℕ, ◌<◌, ◌≤◌, true, false, List, length}
use Rattle.std.specs.List.{insert, remove}
use Rattle.hips_catalog.specs.Rows.{Source, in_order}
use Rattle.hips_catalog.specs.Catalogue.{Catalogue, IsCatalogue, has_id, with_source, without_id}
use Rattle.hips_catalog.specs.Tiles.{AreListed, NoneIsEmpty}
use Rattle.hips_catalog.specs.Parts.{AreTilesOf}
use Rattle.hips_catalog.specs.declared.tile.Tile.{Tile}

-- of its rows and its tiles
abbrev pub kept_content : ℕ → ℕ → List Source → Catalogue
kept_content top per_tile rows = record { top = top; per_tile = per_tile; rows = rows }

-- the tiles are those of the rows, and each has some
pub record IsKeptCatalogue (catalogue : Catalogue) (tiles : List Tile) : Type 0 where
  pub is : IsCatalogue catalogue
  pub listed : AreListed tiles
  pub full : NoneIsEmpty tiles
  pub tiles_are : AreTilesOf catalogue.top catalogue.per_tile (in_order catalogue.rows) tiles

-- the source of the id is at this place
pub record StandsAt (id : List ℕ) (ss : List Source) (at : ℕ) : Type 0 where
  pub there : has_id id ss ≡ true
  pub within : at < length ss
  pub without : remove ss at ≡ without_id id ss

-- no source has the id, and one would be at this place
pub record WouldStandAt (id : List ℕ) (ss : List Source) (at : ℕ) : Type 0 where
  pub absent : has_id id ss ≡ false
  pub within : at ≤ length ss
  pub with_one : (s : Source) → s.id ≡ id → insert ss at s ≡ with_source s ss
