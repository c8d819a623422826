use Rattle.std.proofs.Common.{◌≡◌, ◌++◌, drop}
use Rattle.circ_mixfix.specs.Answers.{declared_by}
use Rattle.circ_mixfix.specs.Variables.{variables_named}
use Rattle.circ_mixfix.proofs.variables.push_listed.Given as goal

abbrev pub invariant-loop-var : goal.invariant-loop-var
invariant-loop-var l = l.out.items ++ variables_named (declared_by (drop l.var-index l.vars)) l.word l.name ≡ l.initial.out.items ++ variables_named (declared_by l.vars) l.word l.name
