use Rattle.circ_rewrite.proofs.RuleLists.{rules_are}
use Rattle.circ_rewrite.proofs.laws.theory_rules_are_rules.Goals as goal

pub returns : goal.returns
returns c = λ th ok goals. rules_are th ok goals
