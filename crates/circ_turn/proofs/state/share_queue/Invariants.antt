use Rattle.std.proofs.Common.{◌≡◌, ◌++◌, drop}
use Rattle.circ_turn.proofs.state.share_queue.Given as goal

abbrev pub invariant-loop-goal : goal.invariant-loop-goal
invariant-loop-goal l = l.queue.items ++ drop l.goal-index l.goals ≡ l.goals
