-- What steps are judged by, by number.
use Rattle.std.specs.Prelude.{◌≡◌, ◌<◌, List, length, map}
use Rattle.std.specs.List.{AllByRecursion}
use Rattle.circ_term.specs.Tree.{Tree}
use Rattle.circ_theory.specs.Theory.{goal_of}
use Rattle.circ_nodes.specs.Named.{tree_at}
use Rattle.circ_shared.specs.Patterns.{goal_at, IsPattern}
use Rattle.circ_steps.specs.Derivatives.{AreDerivativesAt}
use Rattle.circ_steps.specs.declared.rules.Rules.{Rules}

-- the equations and the derivatives are those of the theory, and all that has a number is there
pub record AreRules (nodes : List Tree) (r : Rules) : Type 0 where
  pub equations : map (goal_at nodes) r.equations.now ≡ map goal_of r.theory.now.equations
  pub patterns : AllByRecursion (IsPattern nodes) r.equations.now
  pub derivatives : AreDerivativesAt nodes r.theory.now.derivatives r.derivatives.now
  pub table : AllByRecursion (λ n. n < length nodes) r.table.now

-- the terms that links name
abbrev pub terms_at : (nodes : List Tree) → Rules → List Tree
terms_at nodes r = map (tree_at nodes) r.table.now
