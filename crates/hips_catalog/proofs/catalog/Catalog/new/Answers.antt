use Rattle.hips_catalog.proofs.Changed.{kept_new}
use Rattle.hips_catalog.proofs.catalog.Catalog.new.Goals as goal

pub invariant_of-result : goal.invariant_of-result
invariant_of-result c = kept_new c.args.top c.args.per_tile c.new.result c.new-2.result c.new.ensures c.new-2.ensures c.requires.top c.requires.least c.requires.most
