-- What the nodes of a tree hold.
use Rattle.std.specs.Prelude.{◌≡◌, ℕ, ◌<◌, ◌^◌, List, [], ◌∷◌, ◌++◌, length}
use Rattle.balanced_list.specs.declared.balance.Fork.{Fork}
use Rattle.balanced_list.specs.declared.balance.Tree.{Tree}
use Rattle.balanced_list.specs.declared.balance.Tree.TheVariants.{Empty as Leaf, Fork as Node}

-- a node's items, from left to right
abbrev pub node_items : {T : Type 0} → Fork T → List T
node_items node = node.left ++ node.item ∷ node.right

-- the items of a tree
abbrev pub tree_items : {T : Type 0} → Tree T → List T
tree_items Leaf = []
tree_items (Node node) = node_items node.value

-- the count of a tree's items is right
pub record IsCounted {T : Type 0} (tree : Tree T) (count : ℕ) : Type 0 where
  pub count_is : count ≡ length (tree_items tree)
  pub fits : length (tree_items tree) < 2 ^ 64

-- a node of one item
pub record IsSingle {T : Type 0} (node : Fork T) : Type 0 where
  pub none_before : node.left ≡ []
  pub none_after : node.right ≡ []
