use Rattle.circ_certificates.proofs.Beginning.{AreBelow}
use Rattle.circ_certificates.proofs.guard.Asked.below.Given as goal

abbrev pub invariant-loop-body : goal.invariant-loop-body
invariant-loop-body l = AreBelow l.self l.place l.bodies l.body-index l.args.items
