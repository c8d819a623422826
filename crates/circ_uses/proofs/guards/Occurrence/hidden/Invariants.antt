use Rattle.std.proofs.Common.{◌≡◌, drop}
use Rattle.circ_expansion.specs.Expand.{hidden_case}
use Rattle.circ_uses.proofs.guards.Occurrence.hidden.Given as goal

abbrev pub invariant-loop-number : goal.invariant-loop-number
invariant-loop-number l =
    hidden_case l.self.theory.now l.self.gamma.now l.number (drop l.number l.self.theory.now.derivatives) l.self.term.now l.self.path.now
    ≡ hidden_case l.self.theory.now l.self.gamma.now 0 l.self.theory.now.derivatives l.self.term.now l.self.path.now
