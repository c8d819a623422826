use Rattle.std.proofs.Common.{◌∙◌}
use Rattle.circ_own_rules.proofs.Matches.{matches_told}
use Rattle.circ_own_rules.proofs.reading.matches.Goals as goal

pub returns : goal.returns
returns c = c.is_some.ensures ∙ matches_told c.args.pattern.now c.args.term.now c.in_ok-found.found c.in_ok-found.ensures
