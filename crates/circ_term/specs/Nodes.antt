-- How a term lies in memory, and the tree that it is.
use Rattle.std.specs.Prelude.{◌≡◌, ◌≤◌, length}
use Rattle.circ_term.specs.Tree.{Tree, Var, App, trees_of, size_of, depth_of, is_ground}
use Rattle.circ_term.specs.Fingerprint.{fingerprint_of}
use Rattle.circ_term.specs.Limits.{node_limit, depth_limit, argument_limit}
use Rattle.circ_term.specs.declared.node.Shape.{Shape}
use Rattle.circ_term.specs.declared.node.Shape.TheVariants.{Variable, Application}
use Rattle.circ_term.specs.declared.node.Node.{Node}

abbrev pub tree_of_node : Node → Tree
tree_of_node n = App n.op n.sort (trees_of n.args.items)

abbrev pub tree_of : Shape → Tree
tree_of (Variable n s) = Var n s
tree_of (Application rc) = tree_of_node rc.value

-- what a node keeps is true of its tree, which is within the limits
pub record IsKept (n : Node) : Type 0 where
  pub size : n.size ≡ size_of (tree_of_node n)
  pub depth : n.depth ≡ depth_of (tree_of_node n)
  pub without_variable : n.is_ground ≡ is_ground (tree_of_node n)
  pub fingerprint : n.fingerprint ≡ fingerprint_of (tree_of_node n)
  pub small : n.size ≤ node_limit
  pub shallow : n.depth ≤ depth_limit
  pub few : length n.args.items ≤ argument_limit

abbrev pub HasKept : Shape → Type 0
HasKept (Variable n s) = Unit {0}
HasKept (Application rc) = IsKept rc.value
