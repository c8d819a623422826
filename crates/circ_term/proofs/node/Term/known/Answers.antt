use Rattle.circ_term.proofs.Replaced.{kept_within}
use Rattle.circ_term.proofs.node.Term.known.Goals as goal

pub returns : goal.returns
returns c = rw (← c.self.view_is) (kept_within c.self.inside.shape c.self.invariant)
