use Rattle.std.proofs.Common.{◌∙◌, sym, ap, arith}
use Rattle.std.specs.Prelude.{nat_lt}
use Rattle.std.specs.Arc.{arc_value}
use Rattle.hips_catalog.specs.Rows.{has_id_below}
use Rattle.hips_catalog.specs.Heads.{id_head}
use Rattle.hips_catalog.proofs.Heads.{below_by_head}
use Rattle.hips_catalog.proofs.headed_row.AfterProbeHeadedRow.is_past.Goals as goal

pub returns : goal.returns
returns c =
    let row = c.row.invariant in
    let sought = c.args.self.now.known in
    let id = (arc_value c.row.inside.row).id in
    ap (λ h. nat_lt h c.args.self.now.head) row.head_is ∙ ap (λ h. nat_lt (id_head id) h) sought.head_is
    ∙ sym (below_by_head id c.args.self.now.id.now row.are_bytes sought.are_bytes (λ e. omega (arith, c.if-row-self.false, row.head_is, sought.head_is, e)))
    ∙ ap (λ r. has_id_below (arc_value r) c.args.self.now.id.now) c.row.view_is
