use Rattle.std.proofs.Common.{◌≤◌, ◌+◌, drop}
use Rattle.circ_theory.specs.Operators.{operator_of}
use Rattle.circ_mixfix.specs.Least.{own_words}
use Rattle.circ_mixfix.proofs.LeastNumbers.{least_of_all}
use Rattle.circ_mixfix.proofs.least.at_least.Given as goal

abbrev pub invariant-loop-sort : goal.invariant-loop-sort
invariant-loop-sort l =
    l.sum + least_of_all l.least (drop l.sort-index l.decl.args.items) ≤ own_words (operator_of l.decl) + least_of_all l.least l.decl.args.items
