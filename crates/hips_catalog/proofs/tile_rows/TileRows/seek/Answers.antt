use Rattle.std.proofs.Common.{◌≡◌, subst}
use Rattle.balanced_list.specs.Search.{leading, HoldsAtFirst}
use Rattle.hips_catalog.specs.Rows.{is_better}
use Rattle.hips_catalog.specs.Tiles.{sources}
use Rattle.hips_catalog.proofs.tile_rows.TileRows.seek.Goals as goal

pub returns-in-None-clause-place : goal.returns-in-None-clause-place
returns-in-None-clause-place c =
    subst (λ xs. HoldsAtFirst (λ s. is_better s c.args.row.now) (sources xs) → c.search.result.0 ≡ leading (λ s. is_better s c.args.row.now) (sources xs)) c.self.view_is c.search.ensures.place
