use Rattle.std.proofs.Common.{◌≡◌, ◌++◌, drop}
use Rattle.circ_trace.specs.TurnText.{hypothesis_lines}
use Rattle.circ_trace.proofs.lines.put_hypotheses.Given as goal

abbrev pub invariant-loop-goal : goal.invariant-loop-goal
invariant-loop-goal l =
    l.out.items ++ hypothesis_lines l.theory.signature l.before (drop l.goal-index l.goals)
    ≡ l.fn.out.items ++ hypothesis_lines l.theory.signature l.fn.before l.goals
