use Rattle.std.proofs.Common.{◌≡◌, subst}
use Rattle.std.specs.Arc.{arc_value}
use Rattle.balanced_list.specs.Search.{leading, HoldsAtFirst}
use Rattle.hips_catalog.specs.Rows.{is_better}
use Rattle.hips_catalog.specs.Tiles.{sources}
use Rattle.hips_catalog.proofs.Shared.{search_map}
use Rattle.hips_catalog.proofs.tile_rows.TileRows.place_of.Goals as goal

pub returns-in-None-clause-place : goal.returns-in-None-clause-place
returns-in-None-clause-place c =
    subst (λ xs. HoldsAtFirst (λ s. is_better s c.args.row.now) (sources xs) → c.place.result ≡ leading (λ s. is_better s c.args.row.now) (sources xs)) c.self.view_is
    (search_map arc_value (λ s. is_better s c.args.row.now) c.self.inside.list c.place.result c.place.ensures.leading)
