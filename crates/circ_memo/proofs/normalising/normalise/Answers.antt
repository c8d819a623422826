use Rattle.circ_memo.proofs.normalising.normalise.Goals as goal

pub returns-clause-exact : goal.returns-clause-exact
returns-clause-exact c = rw (c.in_ok-memo.ensures, c.in_ok-share_rules.ensures) at c.normal_under-normal.ensures.exact
