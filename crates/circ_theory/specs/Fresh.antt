-- Fresh variables, and the instances of derivatives on terms for their parameters.
use Rattle.std.specs.Prelude.{◌≡◌, ℕ, ◌+◌, ◌-◌, ◌==◌, List, map, Option, Some, None}
use Rattle.std.specs.List.{filter}
use Rattle.circ_term.specs.Tree.{Tree, Var, sort_of}
use Rattle.circ_term.specs.Substitution.{Substitution}
use Rattle.circ_theory.specs.Theory.{Theory, Derivative}
use Rattle.circ_pairs.specs.Variables.{numbered, given}
use Rattle.circ_pairs.specs.Slots.{parameter_sorts_in}
pub use Rattle.circ_pairs.specs.Fresh.{above, all_above, fresh_after, above_pairs, fresh_in, variables_from}

-- parameters 1, 2 and so on as variables numbered from k
abbrev pub numbered_from : ℕ → Substitution
numbered_from k = λ n s. Var (k + (n - 1)) s

-- the derivatives whose hole has this sort, in the theory's order
abbrev pub derivatives_of : Theory → (sort : ℕ) → List Derivative
derivatives_of th s = filter (λ d. d.hole == s) th.derivatives

-- the sorts of parameters 1, 2 and so on
abbrev pub parameter_sorts : Derivative → List ℕ
parameter_sorts d = parameter_sorts_in d.body

-- the variables 1, 2 and so on of the terms' sorts are given the terms in order, and the others stay
abbrev pub given_parameters : List Tree → Substitution
given_parameters ts = given (numbered 1 (map sort_of ts)) ts

-- The terms have the sorts of the derivative's parameters, in order, and t has the sort of its hole.
pub record FitDerivative (d : Derivative) (params : List Tree) (t : Tree) : Type 0 where
  pub parameters : map sort_of params ≡ parameter_sorts d
  pub hole : sort_of t ≡ d.hole

-- there is such a derivative, and the terms fit it
abbrev pub FitSome : Option Derivative → List Tree → Tree → Type 0
FitSome None params t = ⊥
FitSome (Some d) params t = FitDerivative d params t
