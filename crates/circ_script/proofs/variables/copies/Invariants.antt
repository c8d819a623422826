use Rattle.std.proofs.Common.{◌≡◌, ◌++◌, drop}
use Rattle.circ_mixfix.specs.Answers.{declared_by}
use Rattle.circ_script.proofs.variables.copies.Given as goal

abbrev pub invariant-loop-n : goal.invariant-loop-n
invariant-loop-n l = declared_by l.copies.items ++ drop l.n l.theory.variables ≡ l.theory.variables
