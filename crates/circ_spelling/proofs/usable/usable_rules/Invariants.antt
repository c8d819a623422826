use Rattle.circ_spelling.specs.Usable.{AreMarked, KeepsRules}
use Rattle.circ_spelling.proofs.usable.usable_rules.Given as goal

abbrev pub invariant-loop-rule : goal.invariant-loop-rule
invariant-loop-rule l = KeepsRules (λ r. AreMarked l.marks r.symbols.items) l.rules l.rule-index l.some.items
