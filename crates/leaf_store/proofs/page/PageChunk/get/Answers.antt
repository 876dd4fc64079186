use Rattle.std.proofs.Common.{rules, sym}
use Rattle.leaf_store.specs.Places.{IsFound, IsGap}
use Rattle.leaf_store.specs.Tree.{page_pairs}
use Rattle.leaf_store.proofs.Pages.{entry_value, gap_value}
use Rattle.leaf_store.proofs.page.PageChunk.get.Goals as goal

pub returns-in-Ok : goal.returns-in-Ok
returns-in-Ok g c =
    let found : IsFound c.args.key (page_pairs c.args.self.now) c.in-Ok.i = search rules in
    sym (entry_value c.args.key c.args.self.now.pairs.items c.in-Ok.i c.index.result.now found c.index.ensures)

pub returns-in-Err : goal.returns-in-Err
returns-in-Err g c =
    let gap : IsGap c.args.key (page_pairs c.args.self.now) c.in-Err.field-0 = search rules in
    sym (gap_value c.args.key (page_pairs c.args.self.now) c.in-Err.field-0 gap)
