use Rattle.std.proofs.Common.{◌<◌, ℕ}
use Rattle.circ_mixfix.specs.Least.{StandsIn}
use Rattle.circ_mixfix.proofs.candidates.all_sorts.Given as goal

abbrev pub invariant-loop-sort : goal.invariant-loop-sort
invariant-loop-sort l = (s : ℕ) → s < l.sort → StandsIn l.sorts.items s
