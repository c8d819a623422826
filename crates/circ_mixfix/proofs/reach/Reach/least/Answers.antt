use Rattle.circ_mixfix.proofs.reach.Reach.least.Goals as goal

pub returns-clause-listed : goal.returns-clause-listed
returns-clause-listed c = rw (← c.self.view_is) c.self.invariant
