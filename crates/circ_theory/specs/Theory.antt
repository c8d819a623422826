-- Theories: a signature with equations, derivatives and case lists (behavioural specifications).
use Rattle.std.specs.Prelude.{◌≡◌, ℕ, List, [], Some, true}
use Rattle.std.specs.List.{slice_get, Contains}
use Rattle.circ_term.specs.Tree.{Tree, Var, App, none, more, sort_of}
use Rattle.circ_theory.specs.Signature.{Signature, Operator, IsWellSorted}
use Rattle.circ_pairs.specs.declared.goals.Equation.{Equation}
use Rattle.circ_pairs.specs.declared.goals.Goal.{Goal}
pub use Rattle.circ_pairs.specs.Pair.{Pair, pair_with, instance_pair, Within}
pub use Rattle.circ_pairs.specs.Goal.{goal, sides, goal_of}

-- a term with a hole, which is variable 0 of this sort; the other variables are its parameters
pub record Derivative : Type 0 where
  pub hole : ℕ
  pub body : Tree

-- all the values of a visible sort, by their constants' operator numbers
pub record CaseList : Type 0 where
  pub sort : ℕ
  pub constants : List ℕ

-- a declared variable
pub record Declared : Type 0 where
  pub name : List ℕ
  pub sort : ℕ

abbrev pub declared : List ℕ → ℕ → Declared
declared name sort = record { name = name; sort = sort }

-- The parts of each kind are numbered from 0, in order of declaration.
pub record Theory : Type 0 where
  pub name : List ℕ
  pub signature : Signature
  pub variables : List Declared
  pub equations : List Equation
  pub derivatives : List Derivative
  pub cases : List CaseList

-- no equation has conditions
abbrev pub HasNoConditions : Theory → Type 0
HasNoConditions th = (e : Equation) → Contains th.equations e → e.conds ≡ []

-- f applied to two terms, where both arguments and the result have one sort
abbrev pub twice : (op sort : ℕ) → Tree → Tree → Tree
twice f k s t = App f k (more s (more t none))

-- The equations of a theory: the listed ones, whether rules or not, and the usual one for each mark of an operator.
pub data IsEquation (th : Theory) : Goal → Type 0 where
  listed : (e : Equation) → Contains th.equations e → IsEquation th (goal_of e)
  associative : (f : ℕ) (o : Operator) → slice_get th.signature.ops f ≡ Some o → o.assoc ≡ true
      → IsEquation th
      (goal [] (twice f o.result (twice f o.result (Var 0 o.result) (Var 1 o.result)) (Var 2 o.result))
      (twice f o.result (Var 0 o.result) (twice f o.result (Var 1 o.result) (Var 2 o.result))))
  commutative : (f : ℕ) (o : Operator) → slice_get th.signature.ops f ≡ Some o → o.comm ≡ true
      → IsEquation th (goal [] (twice f o.result (Var 0 o.result) (Var 1 o.result)) (twice f o.result (Var 1 o.result) (Var 0 o.result)))
  idempotent : (f : ℕ) (o : Operator) → slice_get th.signature.ops f ≡ Some o → o.idem ≡ true
      → IsEquation th (goal [] (twice f o.result (Var 0 o.result) (Var 0 o.result)) (Var 0 o.result))

-- A sort is hidden exactly where it is the hole's sort of a derivative, and visible otherwise.
pub record IsHidden (th : Theory) (s : ℕ) : Type 0 where
  pub derivative : Derivative
  pub listed : Contains th.derivatives derivative
  pub hole : derivative.hole ≡ s

abbrev pub IsVisible : Theory → ℕ → Type 0
IsVisible th s = IsHidden th s → ⊥

-- both sides are well-sorted, of one sort
pub record IsWellSortedPair (sig : Signature) (p : Pair) : Type 0 where
  pub left : IsWellSorted sig p.left
  pub right : IsWellSorted sig p.right
  pub same_sort : sort_of p.right ≡ sort_of p.left

abbrev pub AreWellSortedPairs : Signature → List Pair → Type 0
AreWellSortedPairs sig E = (p : Pair) → Contains E p → IsWellSortedPair sig p

-- a condition: a well-sorted pair of a visible sort
pub record IsCondition (th : Theory) (p : Pair) : Type 0 where
  pub sorted : IsWellSortedPair th.signature p
  pub visible : IsVisible th (sort_of p.left)

abbrev pub AreConditions : Theory → List Pair → Type 0
AreConditions th E = (p : Pair) → Contains E p → IsCondition th p

-- both sides are well-sorted, of one sort, and the conditions are such
pub record IsWellSortedGoal (th : Theory) (g : Goal) : Type 0 where
  pub sorted : IsWellSortedPair th.signature (sides g)
  pub conds : AreConditions th g.conds
