use Rattle.std.proofs.Common.{◌≡◌, drop}
use Rattle.circ_expansion.specs.Expand.{visible_case}
use Rattle.circ_uses.proofs.guards.Occurrence.visible.Given as goal

abbrev pub invariant-loop-number : goal.invariant-loop-number
invariant-loop-number l =
    visible_case l.self.theory.now l.number (drop l.number l.self.theory.now.derivatives) l.self.term.now l.self.path.now
    ≡ visible_case l.self.theory.now 0 l.self.theory.now.derivatives l.self.term.now l.self.path.now
