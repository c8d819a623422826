use Rattle.std.proofs.Common.{◌≡◌, ◌++◌, drop}
use Rattle.circ_rewrite.proofs.parts.share_rules.Given as goal

abbrev pub invariant-loop-rule : goal.invariant-loop-rule
invariant-loop-rule l = l.copy.items ++ drop l.rule-index l.rules ≡ l.rules
