use Rattle.circ_chart.specs.Levels.{RulesAtMost}
use Rattle.circ_chart.proofs.levels.bound_of.Given as goal

abbrev pub invariant-loop-rule : goal.invariant-loop-rule
invariant-loop-rule l = RulesAtMost l.tokens l.levels l.rules l.rule-index l.bound
