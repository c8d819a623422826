use Rattle.std.proofs.Common.{◌≡◌, ◌++◌, drop}
use Rattle.circ_show.specs.GoalsText.{labelled_goals}
use Rattle.circ_show.proofs.goals.put_goals.Given as goal

abbrev pub invariant-loop-goal : goal.invariant-loop-goal
invariant-loop-goal l =
    l.out.items ++ labelled_goals l.label l.theory.signature (drop l.goal-index l.goals) ≡ l.fn.out.items ++ labelled_goals l.label l.theory.signature l.goals
