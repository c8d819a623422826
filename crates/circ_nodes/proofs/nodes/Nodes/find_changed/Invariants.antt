use Rattle.circ_nodes.specs.Rows.{changed_root, roots}
use Rattle.circ_nodes.proofs.Finding.{IsUpTo, above_number}
use Rattle.circ_nodes.proofs.nodes.Nodes.find_changed.Given as goal

abbrev pub invariant-loop-next : goal.invariant-loop-next
invariant-loop-next l = IsUpTo l.self-inside.chains l.key (roots l.self-inside.rows) (changed_root l.fn.root) l.next

abbrev pub decreases-loop-next : goal.decreases-loop-next
decreases-loop-next l = above_number l.next
