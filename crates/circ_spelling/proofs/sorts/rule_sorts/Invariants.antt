use Rattle.circ_spelling.specs.Sorts.{AreSeen, RuleSorts}
use Rattle.circ_spelling.proofs.sorts.rule_sorts.Given as goal

abbrev pub invariant-loop-rule : goal.invariant-loop-rule
invariant-loop-rule l = record { seen : AreSeen l.seen.items l.sorts.items; rules : RuleSorts l.rules l.rule-index l.sorts.items }
