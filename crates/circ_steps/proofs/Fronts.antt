-- The first goal, by number.
use Rattle.std.proofs.Common.{◌≡◌, ◌<◌, List, [], ◌∷◌, drop, map, length, get_or, refl, ap, sym, subst, ◌∙◌, arith}
use Rattle.std.specs.List.{AllByRecursion}
use Rattle.std.proofs.lemmas.List.{length-map}
use Rattle.circ_term.specs.Growing.{Grows}
use Rattle.circ_term.specs.Tree.{Tree}
use Rattle.circ_theory.specs.Theory.{goal}
use Rattle.circ_theory.specs.Goal.{Goal}
use Rattle.circ_proof.specs.Rules.{state}
use Rattle.circ_rules.specs.Simplifying.{put_sides}
use Rattle.circ_shared.specs.declared.patterns.Sides.{Sides}
use Rattle.circ_shared.specs.Patterns.{pair_at, goal_at, IsThere}
use Rattle.circ_shared.proofs.Sharing.{are_there_later, pairs_later, goals_later, patterns_later}
use Rattle.circ_steps.specs.declared.states.SharedGoal.{SharedGoal}
use Rattle.circ_steps.specs.declared.states.SharedState.{SharedState}
use Rattle.circ_steps.specs.States.{shared_goal, shared_goals, state_at, with_sides, IsGoalThere, IsStateThere}
use Rattle.circ_steps.proofs.Staying.{shared_goals_later, goals_there_later}

-- what is first, and what it is seen as
pub front_there : (nodes : List Tree) (gs : List SharedGoal) (x : SharedGoal) → 0 < length gs → x ≡ get_or gs 0 x → AllByRecursion (IsGoalThere nodes) gs → IsGoalThere nodes x
front_there nodes [] x h e a = absurd (omega arith)
front_there nodes (g ∷ gs) x h e a = subst (IsGoalThere nodes) (sym e) a.0

pub front_seen : (nodes : List Tree) (gs : List SharedGoal) (x : SharedGoal) → x ≡ get_or gs 0 x
    → shared_goal nodes x ≡ get_or (shared_goals nodes gs) 0 (shared_goal nodes x)
front_seen nodes [] x e = refl
front_seen nodes (g ∷ gs) x e = ap (shared_goal nodes) e

pub some_seen : (nodes : List Tree) (gs : List SharedGoal) → 0 < length gs → 0 < length (shared_goals nodes gs)
some_seen nodes gs h = subst (λ n. 0 < n) (sym (length-map gs (shared_goal nodes))) h

pub rest_seen : (nodes : List Tree) (gs : List SharedGoal) → shared_goals nodes (drop 1 gs) ≡ drop 1 (shared_goals nodes gs)
rest_seen nodes [] = refl
rest_seen nodes (g ∷ gs) = refl

pub rest_there : (nodes : List Tree) (gs : List SharedGoal) → AllByRecursion (IsGoalThere nodes) gs → AllByRecursion (IsGoalThere nodes) (drop 1 gs)
rest_there nodes [] a = tt
rest_there nodes (g ∷ gs) a = a.1

-- sides in place of those of the first goal

module _ (old new : List Tree) (g : Grows old new) (s : Sides) (there : IsThere new s) where
  with_sides_there : (gs : List SharedGoal) → AllByRecursion (IsGoalThere old) gs → AllByRecursion (IsGoalThere new) (with_sides s gs)
  with_sides_there [] a = tt
  with_sides_there (x ∷ gs) a =
      (record { conditions = are_there_later old new g x.conds.items a.0.conditions; sides = there }, goals_there_later old new g gs a.1)

  sides_seen : (H : List Goal) (gs : List SharedGoal) → AllByRecursion (IsGoalThere old) gs
      → state H (shared_goals new (with_sides s gs)) ≡ put_sides (state H (shared_goals old gs)) (pair_at new s)
  sides_seen H [] a = refl
  sides_seen H (x ∷ gs) a =
      ap (λ E. state H (goal E (pair_at new s).left (pair_at new s).right ∷ shared_goals new gs)) (pairs_later old new g x.conds.items a.0.conditions)
      ∙ ap (λ ys. state H (goal (shared_goal old x).conds (pair_at new s).left (pair_at new s).right ∷ ys)) (shared_goals_later old new g gs a.1)

  module _ (a b : SharedState) (h : IsStateThere old a) (hyps : b.hyps ≡ a.hyps) (put : b.goals.items ≡ with_sides s a.goals.items) where
    pub put_there : IsStateThere new b
    put_there = record {
      hypotheses = rw hyps (patterns_later old new g a.hyps.items h.hypotheses);
      goals = rw put (with_sides_there a.goals.items h.goals);
    }

    pub put_seen : state_at new b ≡ put_sides (state_at old a) (pair_at new s)
    put_seen =
        ap (λ v. state (map (goal_at new) v.items) (shared_goals new b.goals.items)) hyps
        ∙ ap (λ gs. state (map (goal_at new) a.hyps.items) (shared_goals new gs)) put
        ∙ ap (λ H. state H (shared_goals new (with_sides s a.goals.items))) (goals_later old new g a.hyps.items h.hypotheses)
        ∙ sides_seen (map (goal_at old) a.hyps.items) a.goals.items h.goals
