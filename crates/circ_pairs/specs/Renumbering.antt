-- A goal with its variables numbered anew.
use Rattle.std.specs.Prelude.{◌≡◌, ℕ, ◌+◌, List, [], ◌∷◌, map, if◌then◌else◌}
use Rattle.circ_term.specs.Tree.{Var}
use Rattle.circ_term.specs.Substitution.{Substitution, instance}
use Rattle.circ_pairs.specs.declared.goals.Goal.{Goal}
use Rattle.circ_pairs.specs.Pair.{instance_pair}
use Rattle.circ_pairs.specs.Goal.{goal}
use Rattle.circ_pairs.specs.Variables.{Variable, is_variable, variables_of}

-- each variable of the list is given its place in the list as number, from k on
abbrev pub renumbering : ℕ → List Variable → Substitution
renumbering k [] = Var
renumbering k (v ∷ vs) = λ n s. if is_variable (record { number = n; sort = s }) v then Var k s else renumbering (k + 1) vs n s

-- sides and conditions under a substitution
abbrev pub instance_goal : Substitution → Goal → Goal
instance_goal σ g = goal (map (instance_pair σ) g.conds) (instance σ g.left) (instance σ g.right)

-- The goal with the variables 0, 1, and so on, by first occurrence, left side first.
abbrev pub renumbered : Goal → Goal
renumbered g = instance_goal (renumbering 0 (variables_of g)) g

-- the substitution numbers the variables of the list anew
abbrev pub Renumbers : Substitution → List Variable → Type 0
Renumbers σ vs = (n s : ℕ) → σ n s ≡ renumbering 0 vs n s
