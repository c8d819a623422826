-- What steps are judged by, by number.
use Rattle.std.specs.Prelude.{◌≡◌, ◌<◌, List, length, map}
use Rattle.std.specs.List.{AllByRecursion}
use Rattle.circ_term.specs.Tree.{Tree}
use Rattle.circ_theory.specs.Theory.{Theory, goal_of}
use Rattle.circ_nodes.specs.Named.{tree_at}
use Rattle.circ_shared.specs.Patterns.{goal_at, IsPattern}
use Rattle.circ_steps.specs.Derivatives.{AreDerivativesAt}
use Rattle.circ_entering.specs.declared.numbered.Numbered.{Numbered}

-- the equations and the derivatives are those of the theory, and the terms those of the table
pub record AreEnteredRules (th : Theory) (table nodes : List Tree) (x : Numbered) : Type 0 where
  pub equations : map (goal_at nodes) x.equations.items ≡ map goal_of th.equations
  pub patterns : AllByRecursion (IsPattern nodes) x.equations.items
  pub derivatives : AreDerivativesAt nodes th.derivatives x.derivatives.items
  pub there : AllByRecursion (λ n. n < length nodes) x.table.items
  pub terms : map (tree_at nodes) x.table.items ≡ table
