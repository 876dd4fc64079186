use Rattle.std.proofs.Common.{◌≡◌, ◌-◌, ◌/◌, ◌^◌, map, take}
use Rattle.generation.proofs.changes.cells_over.Given as goal

abbrev pub invariant-loop-leaf : goal.invariant-loop-leaf
invariant-loop-leaf l = l.cells.items ≡ map (λ leaf. leaf / 4 ^ (l.fn.top - 3)) (take l.leaf-index l.leaves)
