use Rattle.std.proofs.Common.{◌≡◌, ◌<◌, map, take, sym, ap, subst, ◌∙◌, arith}
use Rattle.std.specs.Prelude.{All, Contains, nat_eq}
use Rattle.std.specs.List.{dedup}
use Rattle.std.proofs.lemmas.List.{take_all}
use Rattle.std.proofs.lemmas.List.Filters.{dedup_is}
use Rattle.generation.proofs.Over.{over, cells_more, over_cells, over_each}
use Rattle.generation.proofs.changes.cells_over.Goals as goal

pub loop-leaf-preserved : goal.loop-leaf-preserved
loop-leaf-preserved c =
    cells_more c.args.top c.loop-leaf.leaf-index c.args.leaves.now c.loop-leaf.cells.items c.push.new.self.items (omega arith) c.loop-leaf.invariant c.in_ok-push.ensures.items

are_over : (c : goal.After-dedup) → c.dedup.new.self.items ≡ dedup nat_eq (map (over c.args.top) c.args.leaves.now)
are_over c =
    let all : take c.loop-leaf.leaf-index c.args.leaves.now ≡ c.args.leaves.now = take_all c.loop-leaf.leaf-index c.args.leaves.now (omega arith) in
    dedup_is nat_eq _ _ c.dedup.ensures.filtered ∙ ap (dedup nat_eq) (c.loop-leaf.invariant ∙ ap (map (over c.args.top)) all)

pub returns-clause-cells : goal.returns-clause-cells
returns-clause-cells c =
    subst (λ cells. All (λ cell. cell < 768) cells) (sym (are_over c)) (over_cells c.args.top c.args.leaves.now c.requires.least c.requires.greatest c.requires.leaves)

pub returns-clause-over : goal.returns-clause-over
returns-clause-over c =
    subst (λ cells. All (λ leaf. Contains cells (over c.args.top leaf)) c.args.leaves.now) (sym (are_over c)) (over_each c.args.top c.args.leaves.now)
