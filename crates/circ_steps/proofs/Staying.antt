-- States stay when terms are added.
use Rattle.std.proofs.Common.{◌≡◌, List, [], ◌∷◌, map, Result, Ok, Err, refl, ap, ◌∙◌}
use Rattle.std.specs.List.{AllByRecursion}
use Rattle.std.specs.Result.{OnErr}
use Rattle.circ_term.specs.Growing.{Grows}
use Rattle.circ_term.specs.Tree.{Tree}
use Rattle.circ_proof.specs.Rules.{state}
use Rattle.circ_shared.specs.Patterns.{goal_at}
use Rattle.circ_shared.proofs.Sharing.{are_there_later, there_later, goal_stays, goals_later, patterns_later}
use Rattle.circ_steps.specs.declared.states.SharedGoal.{SharedGoal}
use Rattle.circ_steps.specs.declared.states.SharedState.{SharedState}
use Rattle.circ_steps.specs.States.{shared_goal, shared_goals, state_at, IsGoalThere, IsStateThere}

pub on_err : {T E A : Type 0} (r : Result T E) → A → OnErr r A
on_err (Ok x) a = tt
on_err (Err e) a = a

module _ (old new : List Tree) (g : Grows old new) where
  pub shared_goal_later : (x : SharedGoal) → IsGoalThere old x → shared_goal new x ≡ shared_goal old x
  shared_goal_later x h = goal_stays old new g x.conds.items x.sides h.conditions h.sides

  pub goal_there_later : (x : SharedGoal) → IsGoalThere old x → IsGoalThere new x
  goal_there_later x h = record {
    conditions = are_there_later old new g x.conds.items h.conditions;
    sides = there_later old new g x.sides h.sides;
  }

  pub shared_goals_later : (xs : List SharedGoal) → AllByRecursion (IsGoalThere old) xs → shared_goals new xs ≡ shared_goals old xs
  shared_goals_later [] a = refl
  shared_goals_later (x ∷ xs) a = ap (λ y. y ∷ shared_goals new xs) (shared_goal_later x a.0) ∙ ap (λ ys. shared_goal old x ∷ ys) (shared_goals_later xs a.1)

  pub goals_there_later : (xs : List SharedGoal) → AllByRecursion (IsGoalThere old) xs → AllByRecursion (IsGoalThere new) xs
  goals_there_later [] a = tt
  goals_there_later (x ∷ xs) a = (goal_there_later x a.0, goals_there_later xs a.1)

  pub state_later : (s : SharedState) → IsStateThere old s → state_at new s ≡ state_at old s
  state_later s h =
      ap (λ H. state H (shared_goals new s.goals.items)) (goals_later old new g s.hyps.items h.hypotheses)
      ∙ ap (state (map (goal_at old) s.hyps.items)) (shared_goals_later s.goals.items h.goals)

  pub state_there_later : (s : SharedState) → IsStateThere old s → IsStateThere new s
  state_there_later s h = record {
    hypotheses = patterns_later old new g s.hyps.items h.hypotheses;
    goals = goals_there_later s.goals.items h.goals;
  }
