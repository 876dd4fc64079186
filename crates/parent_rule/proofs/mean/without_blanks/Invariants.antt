use Rattle.std.proofs.Common.{◌≡◌, ◌≤◌, length, take}
use Rattle.parent_rule.specs.Combined.{not_blank}
use Rattle.parent_rule.proofs.mean.without_blanks.Given as goal

abbrev pub invariant-loop-x : goal.invariant-loop-x
invariant-loop-x l = record {
  count : l.count ≤ l.x-index;
  kept : take l.count l.kept ≡ not_blank l.blank (take l.x-index l.x-items);
  four : length l.kept ≡ 4;
}
