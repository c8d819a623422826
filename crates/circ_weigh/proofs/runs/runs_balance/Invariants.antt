use Rattle.std.proofs.Common.{drop}
use Rattle.circ_weigh.proofs.Leaves.{SumsUp}
use Rattle.circ_weigh.proofs.runs.runs_balance.Given as goal

abbrev pub invariant-loop-leaf : goal.invariant-loop-leaf
invariant-loop-leaf l = SumsUp l.leaves (drop l.leaf-index l.leaves) l.run
