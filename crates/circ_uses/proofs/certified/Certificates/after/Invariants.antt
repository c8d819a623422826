use Rattle.std.proofs.Common.{◌≡◌, drop, take}
use Rattle.circ_expansion.specs.Expand.{links_after}
use Rattle.circ_uses.specs.Certificates.{lists_in}
use Rattle.circ_uses.proofs.certified.Certificates.after.Given as goal

abbrev pub invariant-loop-number : goal.invariant-loop-number
invariant-loop-number l =
    links_after (drop l.number (take l.count l.self.theory.now.derivatives)) l.sort (lists_in l.self.table.now l.rest)
    ≡ links_after (take l.count l.self.theory.now.derivatives) l.sort (lists_in l.self.table.now l.lists)
