use Rattle.std.proofs.Common.{rules, ◌≡◌, ◌<◌, ◌≤◌, length, get_or, sym}
use Rattle.leaf_store.specs.Places.{IsFound, IsGap}
use Rattle.leaf_store.specs.Tree.{page_pairs}
use Rattle.leaf_store.proofs.Pages.{found_any, entry_next, entry_last}
use Rattle.leaf_store.proofs.page.PageChunk.any_in.Goals as goal

pub returns-in-Ok : goal.returns-in-Ok
returns-in-Ok g c =
    let found : IsFound c.args.low (page_pairs c.args.self.now) c.in-Ok.field-0 = search rules in
    sym (found_any c.args.low c.args.high (page_pairs c.args.self.now) c.in-Ok.field-0 c.requires.sound found c.requires.range)

pub returns-in-Some : goal.returns-in-Some
returns-in-Some g c =
    let gap : IsGap c.args.low (page_pairs c.args.self.now) c.in-Err.i = search rules in
    let inside : c.in-Err.i < length c.args.self.now.pairs.items = search rules in
    let is : c.in-Some.next.now ≡ get_or c.args.self.now.pairs.items c.in-Err.i c.in-Some.next.now = search rules in
    sym (entry_next c.args.low c.args.high c.args.self.now.pairs.items c.in-Err.i c.in-Some.next.now c.requires.sound gap inside is)

pub returns-in-None : goal.returns-in-None
returns-in-None g c =
    let gap : IsGap c.args.low (page_pairs c.args.self.now) c.in-Err.i = search rules in
    let past : length c.args.self.now.pairs.items ≤ c.in-Err.i = search rules in
    sym (entry_last c.args.low c.args.high c.args.self.now.pairs.items c.in-Err.i c.requires.sound gap past)
