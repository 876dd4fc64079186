use Rattle.leaf_probe.proofs.probing.asked_tile.Goals as goal

pub returns-in-Some-clause-tile : goal.returns-in-Some-clause-tile
returns-in-Some-clause-tile c = rw c.depth.ensures at (rw c.in-Some.is at c.in_ok-merge_up.ensures.tile)
