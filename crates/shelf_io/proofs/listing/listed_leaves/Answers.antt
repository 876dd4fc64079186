use Rattle.std.proofs.Common.{◌≡◌, ℕ, ◌+◌, ◌≤◌, List, [], ◌∷◌, ◌++◌, map, take, length, string_bytes, sym, ap, ◌∙◌, subst, arith}
use Rattle.std.specs.Prelude.{nat_eq, String}
use Rattle.std.specs.declared.alloc.Global.{Global}
use Rattle.std.proofs.lemmas.Grind.{common_steps}
use Rattle.std.proofs.lemmas.List.{append-nil}
use Rattle.std.proofs.lemmas.List.Filters.{dedup_is}
use Rattle.shelf_io.proofs.ListedLemmas.{Found, map_more, option_items, found_next, found_all}
use Rattle.shelf_io.proofs.listing.listed_leaves.Goals as goal
use Rattle.shelf_io.proofs.listing.listed_leaves.Goals.{in-Some+in_ok-push, in_default}

pub loop-path-preserved : goal.loop-path-preserved
loop-path-preserved c =
    let more : map string_bytes (take (c.loop-path.path-index + 1) c.args.paths.now) ≡ map string_bytes (take c.loop-path.path-index c.args.paths.now) ++ c.as_bytes.result.now ∷ [] =
    map_more string_bytes c.args.paths.now c.loop-path.path-index c.path-item.result c.loop-path-test.true c.path-item.is ∙ ap (λ text. map string_bytes (take c.loop-path.path-index c.args.paths.now) ++ text ∷ []) (sym c.as_bytes.ensures.value) in
    let next : c.match-leaf_at.leaves.items ≡ c.loop-path.leaves.items ++ option_items c.leaf_at.result =
    elim c.match-leaf_at.branch [
      | in-Some+in_ok-push w ↦ ap (λ v. v.items) w.leaves-is ∙ w.in_ok-push.ensures.items ∙ ap (λ o. c.loop-path.leaves.items ++ option_items o) (sym w.in-Some.is)
      | in_default w ↦ ap (λ v. v.items) w.leaves-is ∙ sym (append-nil c.loop-path.leaves.items) ∙ ap (λ o. c.loop-path.leaves.items ++ option_items o) (sym w.in_default.is)
    ] in
    found_next c.args.top _ _ c.loop-path.leaves.items c.match-leaf_at.leaves.items c.as_bytes.result.now c.leaf_at.result more c.leaf_at.ensures.cell c.leaf_at.ensures.leaf c.loop-path.invariant next

whole : (paths : List (String Global)) (i : ℕ) → length paths ≤ i → take i paths ≡ paths
whole paths i h = grind (arith, common_steps)

pub returns : goal.returns
returns c =
    found_all c.args.top (map string_bytes c.args.paths.now) c.loop-path.leaves.items c.sort_unstable.new.self.items c.dedup.new.self.items
    (subst (λ paths. Found c.args.top (map string_bytes paths) c.loop-path.leaves.items) (whole c.args.paths.now c.loop-path.path-index c.loop-path-test.false) c.loop-path.invariant)
    c.sort_unstable.ensures.permutation c.sort_unstable.ensures.sorted (dedup_is nat_eq _ _ c.dedup.ensures.filtered)
