use Rattle.circ_term.specs.Fingerprint.{fingerprint_of}
use Rattle.circ_nodes.specs.Roots.{trees_with}
use Rattle.circ_nodes.specs.Rows.{roots}
use Rattle.circ_nodes.proofs.Finding.{IsUpTo, above_number}
use Rattle.circ_nodes.proofs.nodes.Nodes.look_up.Given as goal

abbrev pub invariant-loop-next : goal.invariant-loop-next
invariant-loop-next l = IsUpTo l.self-inside.chains (fingerprint_of l.term) (trees_with (roots l.self-inside.rows)) l.term l.next

abbrev pub decreases-loop-next : goal.decreases-loop-next
decreases-loop-next l = above_number l.next
