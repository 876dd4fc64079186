use Rattle.std.proofs.Common.{ℕ, List, refl, ap, sym, subst, ◌∙◌}
use Rattle.std.specs.Arc.{arc_value}
use Rattle.healpix_nested.specs.Cells.{IsCell}
use Rattle.hips_catalog.specs.Rows.{Source, in_order}
use Rattle.hips_catalog.specs.Catalogue.{Catalogue, with_source, with_row}
use Rattle.hips_catalog.specs.Kept.{kept_content, WouldStandAt}
use Rattle.hips_catalog.specs.Parts.{Differ}
use Rattle.hips_catalog.specs.Tiles.{sources}
use Rattle.hips_catalog.proofs.Changed.{rows_with, roomy, differ_with, kept_with}
use Rattle.hips_catalog.proofs.catalog.Catalog.insert.Goals as goal

pub sink-requires-clause-tiles : goal.sink-requires-clause-tiles
sink-requires-clause-tiles c =
    let gap : WouldStandAt c.args.row.id (sources c.self.inside.ids) c.in-Err.at = subst (λ (i : List ℕ). WouldStandAt i (sources c.self.inside.ids) c.in-Err.at) c.id.ensures (subst (λ ss. WouldStandAt c.id.result.now ss c.in-Err.at) (sym (ap (λ (k : Catalogue). k.rows) c.self.view_is)) c.in-Err.ensures.absent) in
    let cell : IsCell c.self.inside.top c.args.row.npix = subst (λ (k : ℕ). IsCell k c.args.row.npix) (sym (ap (λ (k : Catalogue). k.top) c.self.view_is)) c.requires.cell in (
      in_order (sources c.self.inside.ids),
      in_order (with_source c.args.row (sources c.self.inside.ids)),
      c.self.invariant.tiles_are,
      subst (λ (s : Source). Differ c.self.inside.top s (in_order (sources c.self.inside.ids)) (in_order (with_source c.args.row (sources c.self.inside.ids)))) (sym c.in_ok-ready.ensures.placed)
          (differ_with c.self.inside.top c.self.inside.per_tile (sources c.self.inside.ids) c.args.row c.self.invariant.is cell gap.absent (roomy c.self.inside.ids c.len.result c.len.ensures c.if-len-eq-MOST_ROWS.false)),
    )

pub invariant_of-self : goal.invariant_of-self
invariant_of-self c = c.self.invariant

pub invariant_of-self-2 : goal.invariant_of-self-2
invariant_of-self-2 c =
    let gap : WouldStandAt c.args.row.id (sources c.self.inside.ids) c.in-Err.at = subst (λ (i : List ℕ). WouldStandAt i (sources c.self.inside.ids) c.in-Err.at) c.id.ensures (subst (λ ss. WouldStandAt c.id.result.now ss c.in-Err.at) (sym (ap (λ (k : Catalogue). k.rows) c.self.view_is)) c.in-Err.ensures.absent) in
    let cell : IsCell c.self.inside.top c.args.row.npix = subst (λ (k : ℕ). IsCell k c.args.row.npix) (sym (ap (λ (k : Catalogue). k.top) c.self.view_is)) c.requires.cell in
    kept_with c.self.inside.top c.self.inside.per_tile (sources c.self.inside.ids) (sources c.insert.new.self) c.self.inside.tiles c.sink.new.tiles c.args.row (arc_value c.in_ok-ready.ready.placed)
    (rows_with c.args.row.id c.self.inside.ids c.insert.new.self c.in-Err.at c.in_ok-ready.ready.listed c.args.row gap refl c.in_ok-ready.ensures.listed c.insert.ensures) c.in_ok-ready.ensures.placed c.self.invariant cell gap.absent
    (roomy c.self.inside.ids c.len.result c.len.ensures c.if-len-eq-MOST_ROWS.false) c.sink.ensures.listed c.sink.ensures.full c.sink.ensures.tiles

pub returns-clause-done : goal.returns-clause-done
returns-clause-done c =
    let gap : WouldStandAt c.args.row.id (sources c.self.inside.ids) c.in-Err.at = subst (λ (i : List ℕ). WouldStandAt i (sources c.self.inside.ids) c.in-Err.at) c.id.ensures (subst (λ ss. WouldStandAt c.id.result.now ss c.in-Err.at) (sym (ap (λ (k : Catalogue). k.rows) c.self.view_is)) c.in-Err.ensures.absent) in
    ap (kept_content c.self.inside.top c.self.inside.per_tile)
    (rows_with c.args.row.id c.self.inside.ids c.insert.new.self c.in-Err.at c.in_ok-ready.ready.listed c.args.row gap refl c.in_ok-ready.ensures.listed c.insert.ensures)
    ∙ ap (with_row c.args.row) c.self.view_is
