use Rattle.std.proofs.Common.{arith}
use Rattle.circ_read.proofs.GoalTerms.{pairs_all}
use Rattle.circ_read.proofs.terms.pairs_of.Goals as goal

pub returns : goal.returns
returns c = let t = c.loop-at-test.false in pairs_all c.args.terms.now c.loop-at.at c.loop-at.pairs (omega arith) c.loop-at.invariant.pairs
