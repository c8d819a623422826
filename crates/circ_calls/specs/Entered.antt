-- What links are read against, by number, of what was handed in as terms.
use Rattle.std.specs.Prelude.{◌≡◌, List, map}
use Rattle.std.specs.List.{AllByRecursion}
use Rattle.circ_term.specs.Tree.{Tree}
use Rattle.circ_theory.specs.Theory.{Theory, Pair}
use Rattle.circ_theory.specs.Goal.{Goal}
use Rattle.circ_shared.specs.Patterns.{goal_at, pairs_at, AreThere, IsPattern}
use Rattle.circ_entering.specs.Numbered.{AreEnteredRules}
use Rattle.circ_calls.specs.declared.entered.Entered.{Entered}

-- the hypotheses are H, and the assumptions A
pub record IsEntered (th : Theory) (table : List Tree) (H : List Goal) (A : List Pair) (nodes : List Tree) (x : Entered) : Type 0 where
  pub numbered : AreEnteredRules th table nodes x.numbered
  pub patterns : AllByRecursion (IsPattern nodes) x.hyps.items
  pub hypotheses : map (goal_at nodes) x.hyps.items ≡ H
  pub there : AreThere nodes x.assumptions.items
  pub assumptions : pairs_at nodes x.assumptions.items ≡ A
