use Rattle.std.proofs.Common.{◌≡◌, ◌++◌, length}
use Rattle.circ_turn.proofs.state.put_first.Given as goal

abbrev pub invariant-loop-goal : goal.invariant-loop-goal
invariant-loop-goal l = l.goals.items ++ l.queue.items ≡ l.initial.goals.items ++ l.initial.queue.items

abbrev pub decreases-loop-goal : goal.decreases-loop-goal
decreases-loop-goal l = length l.goals.items
