-- The derivatives of a goal, and what stands in their way.
use Rattle.std.specs.Prelude.{◌≡◌, ◌+◌, ◌^◌, nat_lt, if◌then◌else◌, List, [], ◌∷◌, length, Option, Some, None, Result, Ok, Err}
use Rattle.std.specs.Option.{option_map, option_or}
use Rattle.std.proofs.Common.{Global}
use Rattle.std.specs.declared.collections.VecDeque.{VecDeque}
use Rattle.circ_term.specs.Tree.{Tree, sort_of}
use Rattle.circ_term.specs.Limits.{Limit, first_limit, or_else, Names}
use Rattle.circ_term.specs.declared.fault.TermFault.{TermFault}
use Rattle.circ_theory.specs.Theory.{Theory, Derivative, goal}
use Rattle.circ_theory.specs.Observing.{parameters_in}
use Rattle.circ_theory.specs.Experiment.{derived}
use Rattle.circ_theory.specs.Fresh.{fresh_in, given_parameters, derivatives_of}
use Rattle.circ_theory.specs.Goal.{Goal}
use Rattle.circ_proof.specs.Rules.{derived_goal, derivatives_on}
use Rattle.circ_rules.specs.declared.fault.DeriveFault.{DeriveFault}
use Rattle.circ_rules.specs.declared.fault.DeriveFault.TheVariants as fault

-- There are no numbers left for the parameters, or a side passes a limit.
pub data Cause : Type 0 where
  No_numbers : Cause
  Past : (limit : Limit) → Cause

-- the limit that the first side passes, or else the second
abbrev pub sides_limit : Goal → Option Limit
sides_limit g = or_else (first_limit g.left) (first_limit g.right)

-- why the derivative on the goal is not made
abbrev pub cause_on : Goal → Derivative → Option Cause
cause_on g d =
    if nat_lt (2 ^ 32) (fresh_in g + length (parameters_in d.body)) then Some No_numbers else option_map Past (sides_limit (derived_goal d g (fresh_in g)))

-- the first of these
abbrev pub first_cause : Goal → List Derivative → Option Cause
first_cause g [] = None
first_cause g (d ∷ ds) = option_or (cause_on g d) (first_cause g ds)

abbrev pub limit_in : Option Cause → Option Limit
limit_in (Some (Past l)) = Some l
limit_in (Some No_numbers) = None
limit_in None = None

-- the fault names the cause, or memory ran out
abbrev pub NamesCause : DeriveFault → Option Cause → Type 0
NamesCause fault.Numbers c = c ≡ Some No_numbers
NamesCause (fault.Term e) c = Names e (limit_in c)

-- the derivatives of the goal, or the first cause that there are none
abbrev pub MakesDerivatives : Theory → Goal → Result (VecDeque Goal Global) DeriveFault → Type 0
MakesDerivatives th g (Ok q) = (first_cause g (derivatives_of th (sort_of g.left)) ≡ None) × (q.items ≡ derivatives_on th g)
MakesDerivatives th g (Err e) = NamesCause e (first_cause g (derivatives_of th (sort_of g.left)))

-- the same of one derivative
abbrev pub MakesDerivative : Goal → Derivative → Result Goal DeriveFault → Type 0
MakesDerivative g d (Ok h) = (cause_on g d ≡ None) × (h ≡ derived_goal d g (fresh_in g))
MakesDerivative g d (Err e) = NamesCause e (cause_on g d)

-- the derivative on both sides of a goal, with these terms for its parameters; the conditions stay
abbrev pub instances_on : Derivative → (params : List Tree) → Goal → Goal
instances_on d ps g = goal g.conds (derived d g.left (given_parameters ps)) (derived d g.right (given_parameters ps))

-- this goal, or the limit that the first of its sides passes that passes one
abbrev pub BuildsBoth : Goal → Result Goal TermFault → Type 0
BuildsBoth g (Ok h) = (h ≡ g) × (sides_limit g ≡ None)
BuildsBoth g (Err e) = Names e (sides_limit g)
