use Rattle.circ_spelling.specs.May.{RulesClosed}
use Rattle.circ_spelling.proofs.closed.are_rules_closed.Given as goal

abbrev pub invariant-loop-rule : goal.invariant-loop-rule
invariant-loop-rule l = RulesClosed l.tokens l.starts l.rules l.rule-index l.place
