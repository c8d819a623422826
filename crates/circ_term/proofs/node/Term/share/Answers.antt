use Rattle.circ_term.proofs.Replaced.{kept_within}
use Rattle.circ_term.proofs.node.Term.share.Goals as goal

pub returns-in_err-clone-in-Application-clause-within : goal.returns-in_err-clone-in-Application-clause-within
returns-in_err-clone-in-Application-clause-within c = rw (← c.self.view_is) (kept_within c.self.inside.shape c.self.invariant)

pub returns-in_ok-clone-in-Application-clause-within : goal.returns-in_ok-clone-in-Application-clause-within
returns-in_ok-clone-in-Application-clause-within c = rw (← c.self.view_is) (kept_within c.self.inside.shape c.self.invariant)
