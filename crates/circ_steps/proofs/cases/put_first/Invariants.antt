use Rattle.std.proofs.Common.{◌≡◌, ◌≤◌, ◌+◌, ◌++◌, drop, length}
use Rattle.std.specs.VecDeque.{deque_len, deque_capacity}
use Rattle.circ_steps.proofs.cases.put_first.Given as goal

abbrev pub invariant-loop-goal : goal.invariant-loop-goal
invariant-loop-goal l = record {
  items : l.rest.items ++ l.state.goals.items ≡ l.fn.goals.items ++ drop 1 l.fn.state.goals.items;
  room : length l.rest.items + deque_len l.state.goals ≤ deque_capacity l.state.goals;
  hyps : l.state.hyps ≡ l.fn.state.hyps;
}

abbrev pub decreases-loop-goal : goal.decreases-loop-goal
decreases-loop-goal l = length l.rest.items
