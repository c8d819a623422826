-- Each argument is less deep than the term.
use Rattle.std.specs.Prelude.{◌+◌, ◌≤◌, max, List, [], ◌∷◌}
use Rattle.std.proofs.Common.{arith}
use denote.Param.Weighed.{most}
use Rattle.circ_term.specs.Tree.{Tree, trees_of, depth_of, depths_of}
use Rattle.circ_term.specs.Nodes.{tree_of}
use Rattle.circ_term.specs.declared.node.Shape.{Shape}
use Rattle.circ_term.specs.declared.node.Shape.TheVariants.{Variable, Application}
use Rattle.circ_term.specs.declared.node.Term.TheDeep.{deep-Shape}

pub most_le-depths : (ts : List Tree) → most (λ t. depth_of t + 1) ts ≤ depths_of (trees_of ts) + 1
most_le-depths [] = omega arith
most_le-depths (t ∷ ts) = omega (arith, most_le-depths ts)

pub deep_le-depth : (s : Shape) → max (deep-Shape s) 0 ≤ depth_of (tree_of s)
deep_le-depth (Variable n k) = omega arith
deep_le-depth (Application rc) = omega (arith, most_le-depths rc.value.args.items)
