use Rattle.std.proofs.Common.{map}
use Rattle.circ_term.specs.Growing.{Grows}
use Rattle.circ_nodes.specs.Named.{tree_at}
use Rattle.circ_check.proofs.Named.{AreGoals}
use Rattle.circ_check.proofs.naming.put_goals.Given as goal

abbrev pub invariant-loop-name : goal.invariant-loop-name
invariant-loop-name l = record {
  grows : Grows l.fn.nodes l.nodes;
  goals : AreGoals (map (tree_at l.fn.nodes) l.table) l.names l.nodes l.name-index l.goals.items l.own.items;
}
