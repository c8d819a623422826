use Rattle.circ_memo.proofs.normalising.normal_under.Goals as goal

pub returns-clause-exact : goal.returns-clause-exact
returns-clause-exact c =
    rw (c.in_ok-assume.ensures.theory, c.in_ok-assume.ensures.rules, c.in_ok-assume.ensures.assumptions) at c.normal.ensures.exact
