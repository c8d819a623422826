use Rattle.circ_spelling.specs.Usable.{HasTokens, KeepsRules}
use Rattle.circ_spelling.proofs.usable.worded_rules.Given as goal

abbrev pub invariant-loop-rule : goal.invariant-loop-rule
invariant-loop-rule l = KeepsRules (λ r. HasTokens l.tokens r.symbols.items) l.rules l.rule-index l.some.items
