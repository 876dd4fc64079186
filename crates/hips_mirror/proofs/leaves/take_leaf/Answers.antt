use Rattle.hips_mirror.proofs.LeavesLemmas.{puts_leaf}
use Rattle.hips_mirror.proofs.leaves.take_leaf.Goals as goal

pub returns-clause-put : goal.returns-clause-put
returns-clause-put c =
    puts_leaf c.args.conf.now c.args.number c.args.body.now c.args.tiles.now c.put_tile.new.tiles c.in_ok-tile.tile c.in_ok-tile.ensures.numbers c.in_ok-put_tile.ensures.put c.in_ok-put_tile.ensures.ascending
    c.requires.cell c.in_ok-tile.ensures.shape c.requires.fits
