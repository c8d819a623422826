use Rattle.circ_refute.proofs.Growing.{Stands}
use Rattle.circ_refute.proofs.children.push_children.Given as goal

abbrev pub invariant-loop-derivative : goal.invariant-loop-derivative
invariant-loop-derivative l = Stands l.theory.derivatives l.parent l.left l.right l.first l.derivative l.fn.queue.items l.queue.items
