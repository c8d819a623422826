-- Variables that are gathered while each node is gone over once.
use Rattle.std.specs.Prelude.{◌≡◌, ℕ, true, List, map, Some, nat_eq}
use Rattle.std.specs.List.{list_any}
use Rattle.std.specs.Map.{lookup}
use Rattle.circ_term.specs.Tree.{Tree, Trees, Var, App, none, more}
use Rattle.circ_theory.specs.Variables.{Variable as TheVariable, is_variable, sorted}
use Rattle.circ_nodes.specs.Named.{tree_at}
use Rattle.circ_shared.specs.declared.variables.Variable.{Variable}

-- a variable as the code keeps it
abbrev pub variable_of : Variable → TheVariable
variable_of v = record { number = v.number; sort = v.sort }

-- each variable of the term is one of these
abbrev mutual
  pub HasAll : List TheVariable → Tree → Type 0
  HasAll vs (Var n s) = list_any (is_variable (record { number = n; sort = s })) vs ≡ true
  HasAll vs (App f s ts) = AllHave vs ts

  pub AllHave : List TheVariable → Trees → Type 0
  AllHave vs none = Unit {0}
  AllHave vs (more t ts) = HasAll vs t × AllHave vs ts

-- the variables in order, among which are those of each term that was gone over
pub record Gathers (nodes : List Tree) (vs : List TheVariable) (seen : List (ℕ × ℕ)) (keys : List Variable) : Type 0 where
  pub sorted : map variable_of keys ≡ sorted vs
  pub all : (p n : ℕ) → lookup (nat_eq p) seen ≡ Some n → HasAll vs (tree_at nodes p)
