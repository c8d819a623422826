use Rattle.std.proofs.Common.{◌∙◌}
use Rattle.circ_split.proofs.splitting.Splitting.case_sides.Goals as goal

pub returns-clause-exact : goal.returns-clause-exact
returns-clause-exact c =
    let theory = c.in_ok-assume.ensures.theory ∙ c.requires.theory in
    rw (theory, c.in_ok-assume.ensures.rules, c.in_ok-assume.ensures.assumptions) at c.normal_sides.ensures.exact
