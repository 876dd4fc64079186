use Rattle.std.proofs.Common.{◌∙◌}
use Rattle.coverage_moc.specs.Cover.{leaves_under, without}
use Rattle.coverage_moc.proofs.TreeLemmas.{up-itself, agrees_itself, changed}
use Rattle.coverage_moc.proofs.edit.rows_without.Goals as goal

pub remove_cell-requires-clause-ascending : goal.remove_cell-requires-clause-ascending
remove_cell-requires-clause-ascending c = up-itself c.args.top c.in_ok-fewer.fewer.items (leaves_under c.args.top c.args.rows.now) (c.in_ok-fewer.ensures ∙ c.requires.rows)

pub returns : goal.returns
returns c =
    let cells = leaves_under c.args.top c.args.rows.now in
    let is = c.in_ok-fewer.ensures ∙ c.requires.rows in
    changed c.args.top c.in_ok-fewer.fewer.items c.remove_cell.new.rows.items cells (without c.args.leaf cells) is c.in_ok-remove_cell.ensures.ascending
    (c.in_ok-remove_cell.ensures.removed cells (agrees_itself c.args.top c.in_ok-fewer.fewer.items cells is)) c.in_ok-remove_cell.ensures.same
