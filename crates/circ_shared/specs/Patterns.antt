-- Pairs of terms by number, and goals, with the numbers of their variables.
use Rattle.std.specs.Prelude.{◌<◌, List, [], ◌∷◌, length, map}
use Rattle.std.specs.List.{AllByRecursion}
use Rattle.circ_term.specs.Tree.{Tree, Trees, Var, none, more}
use Rattle.circ_theory.specs.Theory.{Pair, pair_with, goal}
use Rattle.circ_theory.specs.Variables.{Variable, variables_of, sorted}
use Rattle.circ_theory.specs.Goal.{Goal}
use Rattle.circ_nodes.specs.Named.{AreNamed, tree_at}
use Rattle.circ_shared.specs.declared.patterns.Sides.{Sides}
use Rattle.circ_shared.specs.declared.patterns.Pattern.{Pattern}

-- variables as terms
abbrev pub variable_trees : List Variable → Trees
variable_trees [] = none
variable_trees (v ∷ vs) = more (Var v.number v.sort) (variable_trees vs)

abbrev pub pair_at : (nodes : List Tree) → Sides → Pair
pair_at nodes s = pair_with (tree_at nodes s.left) (tree_at nodes s.right)

abbrev pub pairs_at : (nodes : List Tree) → List Sides → List Pair
pairs_at nodes ss = map (pair_at nodes) ss

abbrev pub goal_at : (nodes : List Tree) → Pattern → Goal
goal_at nodes p = goal (pairs_at nodes p.conds.items) (tree_at nodes p.sides.left) (tree_at nodes p.sides.right)

-- both sides are there
abbrev pub IsThere : (nodes : List Tree) → Sides → Type 0
IsThere nodes s = (s.left < length nodes) × (s.right < length nodes)

abbrev pub AreThere : (nodes : List Tree) → List Sides → Type 0
AreThere nodes ss = AllByRecursion (IsThere nodes) ss

-- The terms of the goal are there, and beside them its variables, by number, then sort.
pub record IsPattern (nodes : List Tree) (p : Pattern) : Type 0 where
  pub there : IsThere nodes p.sides
  pub conditions : AreThere nodes p.conds.items
  pub variables : AreNamed nodes p.variables.items (variable_trees (sorted (variables_of (goal_at nodes p))))
