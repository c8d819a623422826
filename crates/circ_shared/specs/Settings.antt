-- What links are read against, by number.
use Rattle.std.specs.Prelude.{◌≡◌, ◌<◌, List, length, map}
use Rattle.std.specs.List.{AllByRecursion}
use Rattle.circ_term.specs.Tree.{Tree}
use Rattle.circ_theory.specs.Theory.{goal_of}
use Rattle.circ_proof.specs.Link.{Setting, setting}
use Rattle.circ_nodes.specs.Named.{tree_at}
use Rattle.circ_shared.specs.declared.patterns.Sides.{Sides}
use Rattle.circ_shared.specs.declared.usage.Sources.{Sources}
use Rattle.circ_shared.specs.Patterns.{pairs_at, goal_at, IsPattern}

-- the equations are those of the theory, and all that has a number is there
pub record AreShared (nodes : List Tree) (s : Sources) : Type 0 where
  pub equations : map (goal_at nodes) s.equations.now ≡ map goal_of s.theory.now.equations
  pub patterns : AllByRecursion (IsPattern nodes) s.equations.now
  pub hypotheses : AllByRecursion (IsPattern nodes) s.hyps.now
  pub table : AllByRecursion (λ n. n < length nodes) s.table.now

abbrev pub table_at : (nodes : List Tree) → Sources → List Tree
table_at nodes s = map (tree_at nodes) s.table.now

abbrev pub setting_at : (nodes : List Tree) → Sources → (assumptions : List Sides) → Setting
setting_at nodes s ss = setting s.theory.now s.gamma.now (map (goal_at nodes) s.hyps.now) (pairs_at nodes ss)
