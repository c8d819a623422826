-- What the derivatives of a goal are, as the code makes them.
use Rattle.std.specs.Prelude.{◌≡◌, ◌≤◌, ◌+◌, ◌^◌, Result, Ok, Err}
use Rattle.std.proofs.Common.{Global}
use Rattle.std.specs.declared.collections.VecDeque.{VecDeque}
use Rattle.circ_theory.specs.Theory.{Theory, IsWellSortedGoal}
use Rattle.circ_theory.specs.Fresh.{fresh_in}
use Rattle.circ_theory.specs.Goal.{Goal}
use Rattle.circ_proof.specs.Rules.{derivatives_on}
use Rattle.circ_plain_search.specs.Search.{goals_limit, unless_past}
use Rattle.circ_join.specs.Stopping.{Stops}
use Rattle.circ_join.specs.declared.stop.Stop.{Stop}

-- A goal whose derivatives can be made: it is well-sorted, and there is room for the numbers of parameters.
pub record CanBeDerived (th : Theory) (g : Goal) : Type 0 where
  pub sorted : IsWellSortedGoal th g
  pub numbers : fresh_in g + 8 ≤ 2 ^ 32

-- the derivatives of the goal, or the first limit that one of them passes
abbrev pub GivesDerivatives : Theory → Goal → Result (VecDeque Goal Global) Stop → Type 0
GivesDerivatives th g (Ok q) = unless_past (goals_limit (derivatives_on th g)) (derivatives_on th g) ≡ Ok q.items
GivesDerivatives th g (Err e) = Stops (unless_past (goals_limit (derivatives_on th g)) (derivatives_on th g)) e
