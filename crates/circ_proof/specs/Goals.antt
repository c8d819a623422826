-- Goals: what is to be proved, or is taken as a hypothesis.
use Rattle.std.specs.Prelude.{List, [], ◌∷◌, ◌++◌}
use Rattle.std.specs.List.{Contains}
use Rattle.circ_theory.specs.Theory.{Theory, Pair, goal, IsWellSortedGoal}
use Rattle.circ_theory.specs.Goal.{Goal}

abbrev pub AreSortedGoals : Theory → List Goal → Type 0
AreSortedGoals th H = (g : Goal) → Contains H g → IsWellSortedGoal th g

-- the goal with one condition more, which goes last
abbrev pub with_cond : Goal → Pair → Goal
with_cond g p = goal (g.conds ++ p ∷ []) g.left g.right
