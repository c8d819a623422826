-- Derivatives by number, and the derivatives of a goal by number.
use Rattle.std.specs.Prelude.{◌≡◌, ℕ, ◌+◌, max, List, [], ◌∷◌, Result, Ok, Err, None}
use Rattle.std.specs.List.{AllByRecursion}
use Rattle.std.proofs.Common.{Global}
use Rattle.std.specs.declared.collections.VecDeque.{VecDeque}
use Rattle.circ_term.specs.Tree.{Tree, Var, sort_of}
use Rattle.circ_term.specs.Limits.{Names}
use Rattle.circ_term.specs.declared.fault.TermFault.{TermFault}
use Rattle.circ_theory.specs.Theory.{Theory, Derivative}
use Rattle.circ_theory.specs.Variables.{Variable, numbered}
use Rattle.circ_theory.specs.Fresh.{fresh_in, parameter_sorts, derivatives_of}
use Rattle.circ_theory.specs.Goal.{Goal}
use Rattle.circ_proof.specs.Rules.{derived_goal, derivatives_on}
use Rattle.circ_nodes.specs.Named.{IsNamed, AreNamed}
use Rattle.circ_shared.specs.Patterns.{variable_trees}
use Rattle.circ_rules.specs.Derivatives.{cause_on, first_cause, sides_limit, NamesCause}
use Rattle.circ_rules.specs.declared.fault.DeriveFault.{DeriveFault}
use Rattle.circ_steps.specs.declared.derivative.SharedDerivative.{SharedDerivative}
use Rattle.circ_steps.specs.declared.states.SharedGoal.{SharedGoal}
use Rattle.circ_steps.specs.States.{shared_goal, shared_goals, IsGoalThere}

-- one above the greatest number of the variables, 0 where there is none
abbrev pub above_variables : List Variable → ℕ
above_variables [] = 0
above_variables (v ∷ vs) = max (v.number + 1) (above_variables vs)

-- the derivative by number
pub record IsDerivativeAt (nodes : List Tree) (d : Derivative) (x : SharedDerivative) : Type 0 where
  pub body : IsNamed nodes x.body d.body
  pub hole : IsNamed nodes x.hole (Var 0 d.hole)
  pub params : AreNamed nodes x.params.items (variable_trees (numbered 1 (parameter_sorts d)))

abbrev pub AreDerivativesAt : (nodes : List Tree) → List Derivative → List SharedDerivative → Type 0
AreDerivativesAt nodes [] [] = Unit {0}
AreDerivativesAt nodes [] (x ∷ xs) = ⊥
AreDerivativesAt nodes (d ∷ ds) [] = ⊥
AreDerivativesAt nodes (d ∷ ds) (x ∷ xs) = IsDerivativeAt nodes d x × AreDerivativesAt nodes ds xs

-- this goal by number, or the limit that the first of its sides passes that passes one
abbrev pub BuildsBothAt : (nodes : List Tree) → Goal → Result SharedGoal TermFault → Type 0
BuildsBothAt nodes g (Ok h) = IsGoalThere nodes h × (shared_goal nodes h ≡ g) × (sides_limit g ≡ None)
BuildsBothAt nodes g (Err e) = Names e (sides_limit g)

-- the derivative on the goal, by number, or what stands in its way
abbrev pub MakesDerivativeAt : (nodes : List Tree) → Goal → Derivative → Result SharedGoal DeriveFault → Type 0
MakesDerivativeAt nodes g d (Ok h) = IsGoalThere nodes h × (cause_on g d ≡ None) × (shared_goal nodes h ≡ derived_goal d g (fresh_in g))
MakesDerivativeAt nodes g d (Err e) = NamesCause e (cause_on g d)

-- the derivatives of the goal, by number, or the first cause that there are none
abbrev pub MakesDerivativesAt : (nodes : List Tree) → Theory → Goal → Result (VecDeque SharedGoal Global) DeriveFault → Type 0
MakesDerivativesAt nodes th g (Ok q) =
    AllByRecursion (IsGoalThere nodes) q.items × (first_cause g (derivatives_of th (sort_of g.left)) ≡ None)
    × (shared_goals nodes q.items ≡ derivatives_on th g)
MakesDerivativesAt nodes th g (Err e) = NamesCause e (first_cause g (derivatives_of th (sort_of g.left)))
