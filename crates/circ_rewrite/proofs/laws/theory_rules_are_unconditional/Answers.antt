use Rattle.circ_rewrite.proofs.RuleLists.{theory_unconditional}
use Rattle.circ_rewrite.proofs.laws.theory_rules_are_unconditional.Goals as goal

pub returns : goal.returns
returns c = theory_unconditional
