-- Goals by the numbers of a table.
use Rattle.std.specs.Prelude.{◌≡◌, ◌<◌, ℕ, List, length, map}
use Rattle.std.specs.List.{AllByRecursion}
use Rattle.circ_term.specs.Tree.{Tree}
use Rattle.circ_theory.specs.Goal.{Goal}
use Rattle.circ_proof.specs.Proof.{GoalNames, goal_at}

-- the numbers of its terms are below a count
pub record IsNameWithin (count : ℕ) (n : GoalNames) : Type 0 where
  pub left : n.left < count
  pub right : n.right < count
  pub conds : AllByRecursion (λ c. (c.0 < count) × (c.1 < count)) n.conds

-- the goals are those of these names
pub record AreNamedGoals (table : List Tree) (goals : List Goal) (names : List GoalNames) : Type 0 where
  pub within : AllByRecursion (IsNameWithin (length table)) names
  pub goals_are : goals ≡ map (goal_at table) names
