use Rattle.circ_nodes.specs.Named.{tree_at}
use Rattle.circ_certificates.proofs.Beginning.{AreBegun}
use Rattle.circ_certificates.proofs.guard.Asked.bodies_at.Given as goal

abbrev pub invariant-loop-derivative : goal.invariant-loop-derivative
invariant-loop-derivative l =
    AreBegun l.self l.visit.is_special (tree_at l.self.nodes.now l.visit.term) l.self.rules.theory.now.derivatives l.visit.bodies.items l.derivative-index l.bodies.items
