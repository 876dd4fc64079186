use Rattle.std.proofs.Common.{rules, ◌≡◌, ◌≢◌, ◌<◌, ◌≤◌, length, get_or}
use Rattle.std.specs.Prelude.{nat_lt}
use Rattle.std.proofs.lemmas.List.Sorted.{IsPartitionPoint-from_clause}
use Rattle.leaf_store.proofs.Pages.{keys_part, find_found, find_gap, find_end}
use Rattle.leaf_store.proofs.page.find.Goals as goal

pub returns-then-pair-key-clause-found : goal.returns-then-pair-key-clause-found
returns-then-pair-key-clause-found g c =
    let at = IsPartitionPoint-from_clause (λ pair. nat_lt pair.0 c.args.key) c.args.pairs.now c.partition_point-i.result c.partition_point-i.ensures.partitioned (keys_part c.args.key c.args.pairs.now c.requires.ascending) (λ a r f called. search rules) in
    let inside : c.partition_point-i.result < length c.args.pairs.now = search rules in
    let is : c.in-Some.pair.now ≡ get_or c.args.pairs.now c.partition_point-i.result c.in-Some.pair.now = search rules in
    let same : c.in-Some.pair.now.0 ≡ c.args.key = search rules in
    find_found c.args.key c.args.pairs.now c.partition_point-i.result c.in-Some.pair.now c.requires.ascending at inside is same

pub returns-else-pair-key-clause-gap : goal.returns-else-pair-key-clause-gap
returns-else-pair-key-clause-gap g c =
    let at = IsPartitionPoint-from_clause (λ pair. nat_lt pair.0 c.args.key) c.args.pairs.now c.partition_point-i.result c.partition_point-i.ensures.partitioned (keys_part c.args.key c.args.pairs.now c.requires.ascending) (λ a r f called. search rules) in
    let inside : c.partition_point-i.result < length c.args.pairs.now = search rules in
    let is : c.in-Some.pair.now ≡ get_or c.args.pairs.now c.partition_point-i.result c.in-Some.pair.now = search rules in
    let other : c.in-Some.pair.now.0 ≢ c.args.key = search rules in
    find_gap c.args.key c.args.pairs.now c.partition_point-i.result c.in-Some.pair.now c.requires.ascending at inside is other

pub returns-in-None-clause-gap : goal.returns-in-None-clause-gap
returns-in-None-clause-gap g c =
    let at = IsPartitionPoint-from_clause (λ pair. nat_lt pair.0 c.args.key) c.args.pairs.now c.partition_point-i.result c.partition_point-i.ensures.partitioned (keys_part c.args.key c.args.pairs.now c.requires.ascending) (λ a r f called. search rules) in
    let past : length c.args.pairs.now ≤ c.partition_point-i.result = search rules in
    find_end c.args.key c.args.pairs.now c.partition_point-i.result c.partition_point-i.ensures.bound at past
