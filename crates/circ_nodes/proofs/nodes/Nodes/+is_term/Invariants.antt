use Rattle.std.proofs.Common.{◌+◌, ◌*◌}
use Rattle.circ_term.specs.Tree.{trees_of, depth_of, depths_of}
use Rattle.circ_nodes.proofs.Comparing.{AgreeTo}
use Rattle.circ_nodes.proofs.nodes.Nodes.+is_term.Given as goal

abbrev pub decreases-is_term : goal.decreases-is_term
decreases-is_term l = 2 * depth_of l.term.now

abbrev pub decreases-are_terms : goal.decreases-are_terms
decreases-are_terms l = 2 * depths_of (trees_of l.terms.now) + 1

abbrev pub invariant-are_terms-loop-i : goal.invariant-are_terms-loop-i
invariant-are_terms-loop-i l = AgreeTo l.self l.numbers l.terms l.i
