use Rattle.std.specs.List.{AllByRecursion}
use Rattle.circ_rewrite.specs.Due.{IsRewriteRule, AreUnconditional}
use Rattle.circ_memo_tests.proofs.tests.steps.Given as goal

abbrev pub invariant-loop-number : goal.invariant-loop-number
invariant-loop-number l = record {
  rewrite : AllByRecursion IsRewriteRule l.rules.items;
  unconditional : AreUnconditional l.rules.items;
}
