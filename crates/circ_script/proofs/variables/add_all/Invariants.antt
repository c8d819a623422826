use Rattle.std.proofs.Common.{◌≡◌}
use Rattle.circ_read.specs.Outcomes.{all_added, variable_added}
use Rattle.circ_read.proofs.Tokens.{tokens_from}
use Rattle.circ_script.specs.Steps.{IsButVariables}
use Rattle.circ_script.proofs.variables.add_all.Given as goal

abbrev pub invariant-loop-n : goal.invariant-loop-n
invariant-loop-n l = record {
  same : all_added (variable_added l.sort) l.theory (tokens_from l.tokens l.n l.fn.names.to) ≡ all_added (variable_added l.sort) l.fn.theory
      (tokens_from l.tokens l.fn.names.from l.fn.names.to);
  kept : IsButVariables l.fn.theory l.theory;
}
