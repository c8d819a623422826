use Rattle.circ_rewrite.proofs.RuleLists.{listed_rewrite, listed_few}
use Rattle.circ_rewrite.proofs.listing.theory_rules.Goals as goal

pub returns-clause-rewrite : goal.returns-clause-rewrite
returns-clause-rewrite c = listed_rewrite c.args.theory.now c.listed.result c.listed.ensures

pub returns-clause-few : goal.returns-clause-few
returns-clause-few c = listed_few c.args.theory.now c.known.ensures c.listed.result c.listed.ensures
