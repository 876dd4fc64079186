use Rattle.std.proofs.Common.{rules, ◌≡◌, ℕ, ◌*◌, ◌/◌, ◌^◌, ◌<◌, ◌≤◌, ◌==◌, length, get_or, ap, sym, subst, ◌∙◌, arith}
use Rattle.std.specs.Prelude.{nat_lt}
use Rattle.std.specs.List.{list_any}
use Rattle.std.proofs.lemmas.List.Sorted.{IsPartitionPoint-from_clause}
use Rattle.healpix_nested.specs.CellLaws.{four_pow, four_pow_pos}
use Rattle.rebuild_worker.proofs.Touched.{lower_first, first_tells, lies_nowhere}
use Rattle.rebuild_worker.proofs.sources.is_touched.Goals as goal

pub returns-in-Some : goal.returns-in-Some
returns-in-Some c =
    let size : ℕ = 2 ^ (2 * c.args.height) in
    let some : 0 < size = subst (λ s. 0 < s) (sym (four_pow c.args.height)) (four_pow_pos c.args.height) in
    let up = c.requires.ascending in
    let at = IsPartitionPoint-from_clause (λ leaf. nat_lt (leaf / 2 ^ (2 * c.args.height)) c.args.cell) c.args.touched.now c.partition_point-first.result c.partition_point-first.ensures.partitioned
    (lower_first size c.args.touched.now some up c.args.cell) (λ a r f called. search rules) in
    let within : c.partition_point-first.result < length c.args.touched.now = search rules in
    let is : c.in-Some.leaf.now ≡ get_or c.args.touched.now c.partition_point-first.result c.in-Some.leaf.now = search rules in
    first_tells size c.args.touched.now some up c.args.cell c.partition_point-first.result c.in-Some.leaf.now at within is
    ∙ ap (λ s. list_any (λ leaf. leaf / s == c.args.cell) c.args.touched.now) (four_pow c.args.height)

pub returns-in-None : goal.returns-in-None
returns-in-None c =
    let size : ℕ = 2 ^ (2 * c.args.height) in
    let some : 0 < size = subst (λ s. 0 < s) (sym (four_pow c.args.height)) (four_pow_pos c.args.height) in
    let up = c.requires.ascending in
    let at = IsPartitionPoint-from_clause (λ leaf. nat_lt (leaf / 2 ^ (2 * c.args.height)) c.args.cell) c.args.touched.now c.partition_point-first.result c.partition_point-first.ensures.partitioned
    (lower_first size c.args.touched.now some up c.args.cell) (λ a r f called. search rules) in
    let past : length c.args.touched.now ≤ c.partition_point-first.result = search rules in
    sym (lies_nowhere size c.args.touched.now some up c.args.cell c.partition_point-first.result 0 at (λ within. absurd (omega arith)))
    ∙ ap (λ s. list_any (λ leaf. leaf / s == c.args.cell) c.args.touched.now) (four_pow c.args.height)
