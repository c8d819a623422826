use Rattle.std.proofs.Common.{◌≡◌, drop}
use Rattle.std.specs.List.{list_all}
use Rattle.circ_conditional_search.specs.Versions.{has_no_conds}
use Rattle.circ_search.proofs.versions.have_no_conds.Given as goal

abbrev pub invariant-loop-goal : goal.invariant-loop-goal
invariant-loop-goal l = list_all has_no_conds (drop l.goal-index l.goals) ≡ list_all has_no_conds l.goals
