use Rattle.std.proofs.Common.{refl}
use Rattle.hips_catalog.proofs.Listed.{change, taken_rows, taken_length, still_within}
use Rattle.hips_catalog.proofs.tile.lift.Goals as goal

pub returns-clause-rows : goal.returns-clause-rows
returns-clause-rows c = taken_rows c.args.tiles.now c.args.at c.args.cell c.swap.new.item c.swap.new.item c.requires.listed c.requires.there c.swap.ensures.item

pub returns-clause-count : goal.returns-clause-count
returns-clause-count c = taken_length c.args.tiles.now c.args.at c.args.cell c.swap.new.item c.swap.new.item c.requires.listed c.requires.there c.swap.ensures.item

pub returns-clause-within : goal.returns-clause-within
returns-clause-within c = still_within c.args.tiles.now c.swap.new.self c.args.at c.args.cell _ c.requires.there c.swap.ensures.items

pub returns-clause-back : goal.returns-clause-back
returns-clause-back c tile same =
    change c.args.tiles.now c.swap.new.self _ c.args.at c.args.cell _ c.swap.new.item tile c.swap.new.item c.requires.listed c.requires.there c.swap.ensures.item c.swap.ensures.items same refl
