use Rattle.std.proofs.Common.{◌≡◌, ◌++◌, take}
use Rattle.circ_join.specs.Hypotheses.{hypotheses_with}
use Rattle.circ_join.proofs.hypotheses.Hypotheses.finish_block.Given as goal

abbrev pub invariant-loop-goal : goal.invariant-loop-goal
invariant-loop-goal l = l.self ≡ hypotheses_with (l.fn.self.earlier ++ take l.goal-index l.goals) (l.fn.self.earlier ++ take l.goal-index l.goals)
