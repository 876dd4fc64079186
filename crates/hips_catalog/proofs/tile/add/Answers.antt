use Rattle.std.proofs.Common.{◌<◌, length, ap, subst, sym, ◌∙◌, arith}
use Rattle.std.specs.List.{insert}
use Rattle.hips_catalog.specs.Tiles.{sources}
use Rattle.hips_catalog.proofs.Full.{added, added_full, gap_within, few_tiles}
use Rattle.hips_catalog.proofs.tile.add.Goals as goal

pub insert-requires-2-clause-place : goal.insert-requires-2-clause-place
insert-requires-2-clause-place c = gap_within c.args.tiles.now c.args.at c.args.cell c.requires.gap

pub insert-requires-2-clause-fits : goal.insert-requires-2-clause-fits
insert-requires-2-clause-fits c = few_tiles c.args.tiles.now c.requires.listed

pub returns-clause-rows : goal.returns-clause-rows
returns-clause-rows c = (added c.args.tiles.now c.insert-2.new.self c.args.at c.args.cell c.set.new.self c.requires.listed c.requires.gap c.order-order.ensures.known (ap (λ t. t.cell) c.set.ensures) c.insert-2.ensures).rows_are ∙ (ap (λ t. sources t.rows) c.set.ensures ∙ ap sources (c.insert.ensures ∙ ap (λ ys. insert ys 0 c.args.row) c.new-rows.ensures))

pub returns-clause-others : goal.returns-clause-others
returns-clause-others c = (added c.args.tiles.now c.insert-2.new.self c.args.at c.args.cell c.set.new.self c.requires.listed c.requires.gap c.order-order.ensures.known (ap (λ t. t.cell) c.set.ensures) c.insert-2.ensures).others

pub returns-clause-listed : goal.returns-clause-listed
returns-clause-listed c = (added c.args.tiles.now c.insert-2.new.self c.args.at c.args.cell c.set.new.self c.requires.listed c.requires.gap c.order-order.ensures.known (ap (λ t. t.cell) c.set.ensures) c.insert-2.ensures).listed

pub returns-clause-full : goal.returns-clause-full
returns-clause-full c =
    added_full c.args.tiles.now c.insert-2.new.self c.args.at c.args.cell c.set.new.self (added c.args.tiles.now c.insert-2.new.self c.args.at c.args.cell c.set.new.self c.requires.listed c.requires.gap c.order-order.ensures.known (ap (λ t. t.cell) c.set.ensures) c.insert-2.ensures) (ap (λ t. t.cell) c.set.ensures) c.insert-2.ensures
    (subst (λ ys. 0 < length ys) (sym (ap (λ t. sources t.rows) c.set.ensures ∙ ap sources (c.insert.ensures ∙ ap (λ ys. insert ys 0 c.args.row) c.new-rows.ensures))) (omega arith))
