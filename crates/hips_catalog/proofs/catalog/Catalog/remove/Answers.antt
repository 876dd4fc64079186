use Rattle.std.proofs.Common.{ap, sym, subst, ◌∙◌}
use Rattle.std.specs.Arc.{arc_value}
use Rattle.hips_catalog.specs.Rows.{in_order}
use Rattle.hips_catalog.specs.Catalogue.{Catalogue, without_row}
use Rattle.hips_catalog.specs.Kept.{kept_content, StandsAt}
use Rattle.hips_catalog.specs.Tiles.{sources}
use Rattle.hips_catalog.proofs.Ids.{absent_stay}
use Rattle.hips_catalog.proofs.Changed.{rows_without, one_taken, differ_less, kept_less}
use Rattle.hips_catalog.proofs.catalog.Catalog.remove.Goals as goal

pub rise-requires-clause-tiles : goal.rise-requires-clause-tiles
rise-requires-clause-tiles c =
    let there : StandsAt c.args.id.now (sources c.self.inside.ids) c.in-Ok.at = subst (λ ss. StandsAt c.args.id.now ss c.in-Ok.at) (sym (ap (λ (k : Catalogue). k.rows) c.self.view_is)) c.in-Ok.ensures.there in
    let one = one_taken c.self.inside.ids c.remove-row.new.self c.in-Ok.at c.remove-row.result c.row-in-Ok.result.now there.within (c.row-in-Ok.ensures ∙ ap arc_value c.item.ensures) c.remove-row.ensures.item c.remove-row.ensures.items in (
      in_order (sources c.remove-row.new.self),
      in_order (sources c.self.inside.ids),
      c.self.invariant.tiles_are,
      differ_less c.self.inside.top c.self.inside.per_tile (sources c.self.inside.ids) (sources c.remove-row.new.self) c.row-in-Ok.result.now c.self.invariant.is one,
    )

pub invariant_of-self : goal.invariant_of-self
invariant_of-self c =
    let there : StandsAt c.args.id.now (sources c.self.inside.ids) c.in-Ok.at = subst (λ ss. StandsAt c.args.id.now ss c.in-Ok.at) (sym (ap (λ (k : Catalogue). k.rows) c.self.view_is)) c.in-Ok.ensures.there in
    kept_less c.self.inside.top c.self.inside.per_tile (sources c.self.inside.ids) (sources c.remove-row.new.self) c.self.inside.tiles c.rise.new.tiles c.row-in-Ok.result.now
    (one_taken c.self.inside.ids c.remove-row.new.self c.in-Ok.at c.remove-row.result c.row-in-Ok.result.now there.within (c.row-in-Ok.ensures ∙ ap arc_value c.item.ensures) c.remove-row.ensures.item c.remove-row.ensures.items)
    c.self.invariant c.rise.ensures.listed c.rise.ensures.full c.rise.ensures.tiles

pub returns-in-Ok-clause-done : goal.returns-in-Ok-clause-done
returns-in-Ok-clause-done c =
    let there : StandsAt c.args.id.now (sources c.self.inside.ids) c.in-Ok.at = subst (λ ss. StandsAt c.args.id.now ss c.in-Ok.at) (sym (ap (λ (k : Catalogue). k.rows) c.self.view_is)) c.in-Ok.ensures.there in
    ap (kept_content c.self.inside.top c.self.inside.per_tile) (rows_without c.args.id.now c.self.inside.ids c.remove-row.new.self c.in-Ok.at there c.remove-row.ensures.items)
    ∙ ap (without_row c.args.id.now) c.self.view_is

pub returns-in-Err-clause-done : goal.returns-in-Err-clause-done
returns-in-Err-clause-done c =
    sym (ap (λ ss. kept_content c.args.self.now.top c.args.self.now.per_tile ss) (absent_stay c.args.id.now c.args.self.now.rows c.in-Err.ensures.absent.absent))
