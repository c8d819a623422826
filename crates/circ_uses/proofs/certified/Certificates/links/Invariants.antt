use Rattle.std.proofs.Common.{◌≡◌, drop}
use Rattle.circ_expansion.specs.Expand.{certificate_of}
use Rattle.circ_uses.specs.Certificates.{lists_in}
use Rattle.circ_uses.proofs.certified.Certificates.links.Given as goal

abbrev pub invariant-loop-other : goal.invariant-loop-other
invariant-loop-other l =
    certificate_of l.self.theory.now (drop l.other-index l.self.gamma.now) (lists_in l.self.table.now l.rest) l.place l.derivative
    ≡ certificate_of l.self.theory.now l.self.gamma.now (lists_in l.self.table.now l.self.lists.now) l.place l.derivative
