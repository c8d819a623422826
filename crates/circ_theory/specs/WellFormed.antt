-- What is true of each theory that a `Theory` holds.
use Rattle.std.specs.Prelude.{◌≡◌, ◌≢◌, ℕ, ◌≤◌, [], ◌∷◌, Some, nat_eq, length, map}
use Rattle.std.specs.List.{slice_get, filter, Contains, IsDistinct}
use Rattle.circ_pairs.specs.declared.goals.Equation.{Equation}
use Rattle.circ_theory.specs.Limits.{sort_limit, variable_limit, operator_limit, equation_limit, derivative_limit, parameter_limit, constant_limit, condition_limit}
use Rattle.circ_theory.specs.Signature.{Signature, Operator, IsSort, IsWellSorted}
use Rattle.circ_pairs.specs.Goal.{goal_of}
use Rattle.circ_theory.specs.Theory.{Theory, Declared, Derivative, CaseList, IsVisible, IsWellSortedGoal}
use Rattle.circ_pairs.specs.Variables.{occurrences, AreNumberedFrom, IsInOrder}
use Rattle.circ_theory.specs.Operators.{IsOperator}
use Rattle.circ_pairs.specs.Slots.{is_parameter, holes_in, parameters_in}

-- A derivative: a well-sorted term in which the hole, variable 0, occurs once, and the parameters, which are numbered from 1 from the left, once each.
pub record IsDerivative (sig : Signature) (d : Derivative) : Type 0 where
  pub hole : IsSort sig d.hole
  pub body : IsWellSorted sig d.body
  pub one_hole : holes_in d.body ≡ d.hole ∷ []
  pub numbered : AreNumberedFrom 1 (filter is_parameter (occurrences d.body))
  pub few : length (parameters_in d.body) ≤ parameter_limit

-- A case list: at least one constant of a visible sort, all different.
pub record IsCaseList (th : Theory) (l : CaseList) : Type 0 where
  pub sort : IsSort th.signature l.sort
  pub visible : IsVisible th l.sort
  pub some : l.constants ≢ []
  pub different : IsDistinct nat_eq l.constants
  pub constants : (c : ℕ) → Contains l.constants c → (o : Operator) × ((slice_get th.signature.ops c ≡ Some o) × (o.args ≡ []) × (o.result ≡ l.sort))
  pub few : length l.constants ≤ constant_limit

-- Each listed equation is well-sorted, numbered in order, and has few conditions; declared variables have sorts; operators, derivatives
-- and case lists are such; a sort has one case list at most; and no kind has too many parts.
pub record IsWellFormed (th : Theory) : Type 0 where
  pub equations : (e : Equation) → Contains th.equations e → IsWellSortedGoal th (goal_of e)
  pub in_order : (e : Equation) → Contains th.equations e → IsInOrder (goal_of e)
  pub few_conds : (e : Equation) → Contains th.equations e → length e.conds ≤ condition_limit
  pub variables : (d : Declared) → Contains th.variables d → IsSort th.signature d.sort
  pub operators : (o : Operator) → Contains th.signature.ops o → IsOperator th.signature o
  pub derivatives : (d : Derivative) → Contains th.derivatives d → IsDerivative th.signature d
  pub cases : (l : CaseList) → Contains th.cases l → IsCaseList th l
  pub one_list : IsDistinct nat_eq (map (λ l. l.sort) th.cases)
  pub few_sorts : length th.signature.sorts ≤ sort_limit
  pub few_variables : length th.variables ≤ variable_limit
  pub few_ops : length th.signature.ops ≤ operator_limit
  pub few_equations : length th.equations ≤ equation_limit
  pub few_derivatives : length th.derivatives ≤ derivative_limit
