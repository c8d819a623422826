use Rattle.std.proofs.Common.{length}
use Rattle.circ_term.proofs.node.Term.+replace.Given as goal

abbrev pub decreases-replace : goal.decreases-replace
decreases-replace l = length l.path.now
