use Rattle.std.proofs.Common.{◌≡◌, ◌++◌, map, drop}
use Rattle.circ_check.specs.Deciding.{plain_list}
use Rattle.circ_show.specs.GoalsText.{all_goal_lines}
use Rattle.circ_reports.proofs.incoming.put_goals.Given as goal

abbrev pub invariant-loop-list : goal.invariant-loop-list
invariant-loop-list l =
    l.out.items ++ all_goal_lines l.theory.signature (map plain_list (drop l.list-index l.goals))
    ≡ l.fn.out.items ++ all_goal_lines l.theory.signature (map plain_list l.goals)
