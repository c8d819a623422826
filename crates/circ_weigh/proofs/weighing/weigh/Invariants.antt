use Rattle.std.proofs.Common.{◌≡◌, ◌↔◌, ◌++◌}
use Rattle.std.specs.BinaryHeap.{heap_items, IsHeap}
use Rattle.circ_term.specs.Tree.{Tree}
use Rattle.circ_nodes.specs.Named.{tree_at}
use Rattle.circ_aci.specs.Content.{leaves}
use Rattle.circ_weigh.specs.Weighing.{part_cmp, ones, size_sum, AreParts, AreLeafParts, Balances}
use Rattle.circ_weigh.proofs.weighing.weigh.Given as goal

abbrev pub invariant-loop-leaves : goal.invariant-loop-leaves
invariant-loop-leaves l = record {
  heap : IsHeap part_cmp (heap_items l.sums);
  parts : AreParts l.nodes (heap_items l.sums);
  lone : AreLeafParts l.nodes l.op l.leaves.items;
  balance : Balances l.nodes l.op (heap_items l.sums ++ l.leaves.items) ↔ ((t : Tree) → ones t (leaves l.op (tree_at l.nodes l.a)) ≡ ones t (leaves l.op (tree_at l.nodes l.b)));
}

abbrev pub decreases-loop-leaves : goal.decreases-loop-leaves
decreases-loop-leaves l = size_sum (heap_items l.sums)
