-- What rewriting by a pair of terms does to a term, at a path.
use Rattle.std.specs.Prelude.{◌≡◌, ℕ, List, Some}
use Rattle.std.specs.List.{slice_get}
use Rattle.std.specs.Option.{unwrap_or}
use Rattle.circ_term.specs.Tree.{Tree, Var, at, replaced}
use Rattle.circ_term.specs.Limits.{IsWithinLimits}
use Rattle.circ_term.specs.Substitution.{Substitution, instance}
use Rattle.circ_pairs.specs.declared.goals.Goal.{Goal}
use Rattle.circ_pairs.specs.Pair.{Pair}
use Rattle.circ_pairs.specs.Goal.{sides}
use Rattle.circ_pairs.specs.Variables.{variables_of, sorted, FitVariables, given}
use Rattle.circ_theory.specs.declared.way.Way.{Way}
use Rattle.circ_theory.specs.declared.way.Way.TheVariants.{Forth, Back}

-- the side that is looked for, and the side that replaces it
abbrev pub from_side : Way → Pair → Tree
from_side Forth p = p.left
from_side Back p = p.right

abbrev pub to_side : Way → Pair → Tree
to_side Forth p = p.right
to_side Back p = p.left

-- The term u, within the limits, is t with the subterm at the path, which is old, replaced by new.
pub record Replaces (t : Tree) (path : List ℕ) (old new u : Tree) : Type 0 where
  pub there : at t path ≡ Some old
  pub made : replaced t path new ≡ Some u
  pub within : IsWithinLimits u

-- the term of a table with this number; every number that is asked for is in the table
abbrev pub named : List Tree → ℕ → Tree
named table n = unwrap_or (slice_get table n) (Var 0 0)

-- the substitution that the terms give to the goal's variables, by number and then sort
abbrev pub by_terms : Goal → List Tree → Substitution
by_terms g terms = given (sorted (variables_of g)) terms

-- One side of the goal under the substitution that the terms give is replaced by the other side under it.
pub record RewritesBy (g : Goal) (way : Way) (path : List ℕ) (terms : List Tree) (t u : Tree) : Type 0 where
  pub fit : FitVariables (sorted (variables_of g)) terms
  pub replaces : Replaces t path
      (instance (by_terms g terms) (from_side way (sides g)))
      (instance (by_terms g terms) (to_side way (sides g))) u
