use Rattle.std.proofs.Common.{sym, ◌∙◌, refl, rules}
use Rattle.tile_pixels.proofs.Rows.{read_back}
use Rattle.tile_pixels.proofs.row.write_row.Goals as goal

pub returns-in-8-clause-numbers : goal.returns-in-8-clause-numbers
returns-in-8-clause-numbers c = read_back c.args.depth.bitpix 8 c.args.numbers.now c.write_each.new.bytes refl (sym c.bitpix.ensures.bitpix ∙ c.in-8.is) c.requires.range c.write_each.ensures

pub returns-in-16-clause-numbers : goal.returns-in-16-clause-numbers
returns-in-16-clause-numbers c = read_back c.args.depth.bitpix 16 c.args.numbers.now c.write_each-in-16.new.bytes refl (sym c.bitpix.ensures.bitpix ∙ c.in-16.is) c.requires.range c.write_each-in-16.ensures

pub returns-in-32-clause-numbers : goal.returns-in-32-clause-numbers
returns-in-32-clause-numbers c = read_back c.args.depth.bitpix 32 c.args.numbers.now c.write_each-in-32.new.bytes refl (sym c.bitpix.ensures.bitpix ∙ c.in-32.is) c.requires.range c.write_each-in-32.ensures

pub returns-in_default-clause-numbers : goal.returns-in_default-clause-numbers
returns-in_default-clause-numbers c = read_back c.args.depth.bitpix 64 c.args.numbers.now c.write_64.new.bytes refl (search rules) c.requires.range c.write_64.ensures
