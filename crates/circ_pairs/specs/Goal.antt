-- Goals, and equations and hypotheses likewise: two sides that are to be equal under conditions (conditional equations).
use Rattle.std.specs.Prelude.{List}
use Rattle.circ_term.specs.Tree.{Tree}
use Rattle.circ_pairs.specs.Pair.{Pair, pair_with}
use Rattle.circ_pairs.specs.declared.goals.Equation.{Equation}
use Rattle.circ_pairs.specs.declared.goals.Goal.{Goal}

abbrev pub goal : (conds : List Pair) → Tree → Tree → Goal
goal E s t = record { conds = E; left = s; right = t }

abbrev pub sides : Goal → Pair
sides g = pair_with g.left g.right

-- what an equation says
abbrev pub goal_of : Equation → Goal
goal_of e = goal e.conds e.left e.right
