use Rattle.circ_check.proofs.checking.verdict_of.Goals as goal

pub returns-in-None-clause-exact : goal.returns-in-None-clause-exact
returns-in-None-clause-exact c th p f s = rw c.in-None.is at (c.failed.ensures.exact th p f s)

pub returns-in-None-clause-sound : goal.returns-in-None-clause-sound
returns-in-None-clause-sound c th p f s = rw c.in-None.is at (c.failed.ensures.sound th p f s)

pub returns-in-Some-clause-exact : goal.returns-in-Some-clause-exact
returns-in-Some-clause-exact c th p f s = rw c.in-Some.is at (c.failed.ensures.exact th p f s)
