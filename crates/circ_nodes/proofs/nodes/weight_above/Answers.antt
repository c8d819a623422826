use Rattle.std.proofs.Common.{arith}
use Rattle.circ_nodes.proofs.Weighing.{above_big, above_deep, above_within}
use Rattle.circ_nodes.proofs.nodes.weight_above.Goals as goal

pub returns-then-nodes-gt-MOST_NODES : goal.returns-then-nodes-gt-MOST_NODES
returns-then-nodes-gt-MOST_NODES c = λ op sort ts k. above_big c.args.args op sort ts k (omega arith)

pub returns-then-depth-gt-MOST_DEPTH : goal.returns-then-depth-gt-MOST_DEPTH
returns-then-depth-gt-MOST_DEPTH c = λ op sort ts k. above_deep c.args.args op sort ts k (omega arith) (omega arith)

pub returns : goal.returns
returns c = λ op sort ts k. record {
  size = omega (arith, k.sizes);
  depth = omega (arith, k.depths);
  without_variable = k.without_variable;
  within = above_within c.args.args op sort ts k (omega arith) (omega arith);
}
