use Rattle.std.proofs.Common.{ap, ◌∙◌}
use Rattle.std.specs.Prelude.{slice_get, option_map}
use Rattle.hips_catalog.specs.Catalogue.{Catalogue, existing_tiles}
use Rattle.hips_catalog.specs.declared.tile.Tile.{Tile}
use Rattle.hips_catalog.proofs.Existing.{tile_at}
use Rattle.hips_catalog.proofs.catalog.Catalog.tile.Goals as goal

pub returns-in-Some : goal.returns-in-Some
returns-in-Some c =
    ap (option_map (λ (t : Tile). t.cell)) c.in-Some.ensures ∙ tile_at _ c.self.inside.tiles c.args.i c.self.invariant
    ∙ ap (λ (k : Catalogue). slice_get (existing_tiles k) c.args.i) c.self.view_is

pub returns-in-None : goal.returns-in-None
returns-in-None c =
    ap (option_map (λ (t : Tile). t.cell)) c.in-None.ensures ∙ tile_at _ c.self.inside.tiles c.args.i c.self.invariant
    ∙ ap (λ (k : Catalogue). slice_get (existing_tiles k) c.args.i) c.self.view_is
