use Rattle.std.proofs.Common.{drop}
use Rattle.circ_rewrite.specs.Due.{AreUnconditional}
use Rattle.circ_tries.proofs.reducer.are_unconditional.Given as goal

abbrev pub invariant-loop-rule : goal.invariant-loop-rule
invariant-loop-rule l = AreUnconditional (drop l.rule-index l.rules) → AreUnconditional l.rules
