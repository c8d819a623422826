use Rattle.std.proofs.Common.{◌≡◌, ◌++◌, drop}
use Rattle.circ_rewrite.specs.TheoryRules.{rules_from, theory_rules}
use Rattle.circ_rewrite.proofs.listing.listed.Given as goal

abbrev pub invariant-loop-number : goal.invariant-loop-number
invariant-loop-number l = l.rules.items ++ rules_from l.number (drop l.number l.theory.equations) ≡ theory_rules l.theory
