use Rattle.std.proofs.Common.{◌≡◌, ◌++◌}
use Rattle.std.specs.Map.{keys_of}
use Rattle.generation.specs.Changes.{AreTiles}
use Rattle.generation.proofs.pyramid.leaf_numbers.Given as goal

abbrev pub invariant-loop-leaf : goal.invariant-loop-leaf
invariant-loop-leaf l = record {
  numbers : l.numbers.items ++ keys_of l.leaf-iterator ≡ keys_of l.fn.leaves;
  tiles : AreTiles l.leaf-iterator → AreTiles l.fn.leaves;
}
