-- The view of a handle that contracts use: a tree with its type, within limits.
use Rattle.std.specs.Prelude.{◌≤◌}
use Rattle.mh_type.specs.Signature.{Signature}
use Rattle.mh_tree.specs.Tree.{Tree}
use Rattle.mh_tree.specs.Typing.{IsTyped}
use Rattle.mh_tree.specs.Limits.{depth, size, greatest_depth, most_nodes, greatest_declared_depth, most_declared_nodes}

-- a tree and its type
pub record TypedTree : Type 0 where
  pub tree : Tree
  pub signature : Signature

-- well typed, and within the limits of any handle
pub record IsSound (t : Tree) (m : Signature) : Type 0 where
  pub typed : IsTyped t m
  pub shallow : depth t ≤ greatest_depth
  pub small : size t ≤ most_nodes

-- within the limits of declared trees
pub record IsDeclared (h : TypedTree) : Type 0 where
  pub shallow : depth h.tree ≤ greatest_declared_depth
  pub small : size h.tree ≤ most_declared_nodes
