use Rattle.std.proofs.Common.{drop}
use Rattle.circ_mixfix.specs.Answers.{declared_by, HaveSorts}
use Rattle.circ_calls_tests.proofs.tests.have_sorts.Given as goal

abbrev pub invariant-loop-var : goal.invariant-loop-var
invariant-loop-var l = HaveSorts l.theory.signature (declared_by (drop l.var-index l.vars)) → HaveSorts l.theory.signature (declared_by l.vars)
