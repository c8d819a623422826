-- Fresh variables.
use Rattle.std.specs.Prelude.{ℕ, ◌+◌, max, List, [], ◌∷◌}
use Rattle.circ_term.specs.Tree.{Tree, Trees, Var, App, none, more}
use Rattle.circ_pairs.specs.Pair.{Pair}
use Rattle.circ_pairs.specs.declared.goals.Goal.{Goal}

-- one above the greatest variable number, 0 where there is no variable
abbrev mutual
  pub above : Tree → ℕ
  above (Var n s) = n + 1
  above (App f s ts) = all_above ts

  pub all_above : Trees → ℕ
  all_above none = 0
  all_above (more t ts) = max (above t) (all_above ts)

-- one above the greatest variable number of both terms
abbrev pub fresh_after : Tree → Tree → ℕ
fresh_after s t = max (above s) (above t)

-- the same of pairs
abbrev pub above_pairs : List Pair → ℕ
above_pairs [] = 0
above_pairs (p ∷ ps) = max (fresh_after p.left p.right) (above_pairs ps)

-- one above the greatest variable number of a goal, its conditions among it
abbrev pub fresh_in : Goal → ℕ
fresh_in g = max (fresh_after g.left g.right) (above_pairs g.conds)

-- variables of these sorts, numbered from k
abbrev pub variables_from : (k : ℕ) (sorts : List ℕ) → List Tree
variables_from k [] = []
variables_from k (s ∷ ss) = Var k s ∷ variables_from (k + 1) ss
