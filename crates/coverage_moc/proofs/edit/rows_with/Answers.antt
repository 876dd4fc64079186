use Rattle.std.proofs.Common.{◌∙◌, ◌∷◌}
use Rattle.coverage_moc.specs.Cover.{leaves_under}
use Rattle.coverage_moc.proofs.TreeLemmas.{up-itself, leaf_there, add_again, agrees_itself, changed}
use Rattle.coverage_moc.proofs.edit.rows_with.Goals as goal

pub is_covered-requires-clause-ascending : goal.is_covered-requires-clause-ascending
is_covered-requires-clause-ascending c = up-itself c.args.top c.args.rows.now (leaves_under c.args.top c.args.rows.now) c.requires.rows

pub add_cell-requires-clause-ascending : goal.add_cell-requires-clause-ascending
add_cell-requires-clause-ascending c = up-itself c.args.top c.in_ok-more.more.items (leaves_under c.args.top c.args.rows.now) (c.in_ok-more.ensures ∙ c.requires.rows)

pub returns-then-is_covered : goal.returns-then-is_covered
returns-then-is_covered c =
    let there = leaf_there c.args.top c.args.rows.now c.args.leaf c.is_covered.result c.requires.leaf c.is_covered.ensures ∙ c.if-is_covered.true in
    c.in_ok-more.ensures ∙ add_again c.args.top c.args.rows.now c.args.leaf c.requires.rows there

pub returns : goal.returns
returns c =
    let cells = leaves_under c.args.top c.args.rows.now in
    let is = c.in_ok-more.ensures ∙ c.requires.rows in
    let absent = leaf_there c.args.top c.args.rows.now c.args.leaf c.is_covered.result c.requires.leaf c.is_covered.ensures ∙ c.if-is_covered.false in
    changed c.args.top c.in_ok-more.more.items c.add_cell.new.rows.items cells (c.args.leaf ∷ cells) is c.in_ok-add_cell.ensures.ascending
    (c.in_ok-add_cell.ensures.added cells absent (agrees_itself c.args.top c.in_ok-more.more.items cells is)) c.in_ok-add_cell.ensures.same
