-- States of proofs by number.
use Rattle.std.specs.Prelude.{◌≡◌, List, [], ◌∷◌, ◌++◌, map}
use Rattle.std.specs.List.{AllByRecursion}
use Rattle.circ_term.specs.Tree.{Tree}
use Rattle.circ_theory.specs.Theory.{goal}
use Rattle.circ_theory.specs.Goal.{Goal}
use Rattle.circ_proof.specs.Rules.{State, state}
use Rattle.circ_nodes.specs.Named.{tree_at}
use Rattle.circ_shared.specs.Patterns.{pairs_at, goal_at, IsThere, AreThere, IsPattern}
use Rattle.circ_shared.specs.declared.patterns.Pattern.{Pattern}
use Rattle.circ_shared.specs.declared.patterns.Sides.{Sides}
use Rattle.circ_steps.specs.declared.states.SharedGoal.{SharedGoal}
use Rattle.circ_steps.specs.declared.states.SharedState.{SharedState}

-- the goal with the terms of its numbers
abbrev pub shared_goal : (nodes : List Tree) → SharedGoal → Goal
shared_goal nodes g = goal (pairs_at nodes g.conds.items) (tree_at nodes g.sides.left) (tree_at nodes g.sides.right)

abbrev pub shared_goals : (nodes : List Tree) → List SharedGoal → List Goal
shared_goals nodes gs = map (shared_goal nodes) gs

abbrev pub state_at : (nodes : List Tree) → SharedState → State
state_at nodes s = state (map (goal_at nodes) s.hyps.items) (shared_goals nodes s.goals.items)

-- the terms of the goal are there
pub record IsGoalThere (nodes : List Tree) (g : SharedGoal) : Type 0 where
  pub conditions : AreThere nodes g.conds.items
  pub sides : IsThere nodes g.sides

pub record IsStateThere (nodes : List Tree) (s : SharedState) : Type 0 where
  pub hypotheses : AllByRecursion (IsPattern nodes) s.hyps.items
  pub goals : AllByRecursion (IsGoalThere nodes) s.goals.items

-- the sides take the place of those of the first goal
abbrev pub with_sides : Sides → List SharedGoal → List SharedGoal
with_sides s [] = []
with_sides s (g ∷ gs) = record g { sides = s } ∷ gs

-- some were added at the end
abbrev pub AddsHypotheses : (old new : List Pattern) → Type 0
AddsHypotheses old new = (added : List Pattern) × (new ≡ old ++ added)
