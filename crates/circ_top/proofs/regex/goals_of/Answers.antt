use Rattle.circ_regex.specs.Matches.{plain_regex}
use Rattle.circ_top.proofs.Expressions.{equality_searchable}
use Rattle.circ_top.proofs.regex.goals_of.Goals as goal

pub returns-clause-searchable : goal.returns-clause-searchable
returns-clause-searchable c =
    equality_searchable c.terms_are_sorted.ensures.sorted c.terms_are_sorted.ensures.sort
    (plain_regex c.args.left.now) (plain_regex c.args.right.now) c.in_ok-left.ensures.within c.in_ok-right.ensures.within
