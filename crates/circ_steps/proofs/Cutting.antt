-- A state that is cut back.
use Rattle.std.proofs.Common.{◌≡◌, ℕ, zero, suc, List, [], ◌∷◌, map, take, refl, ap, sym, ◌∙◌}
use Rattle.std.specs.List.{AllByRecursion}
use Rattle.circ_term.specs.Growing.{Grows}
use Rattle.circ_term.specs.Tree.{Tree}
use Rattle.circ_proof.specs.Rules.{state}
use Rattle.circ_shared.specs.declared.patterns.Pattern.{Pattern}
use Rattle.circ_shared.specs.Patterns.{goal_at, IsPattern}
use Rattle.circ_shared.proofs.Sharing.{goals_later}
use Rattle.circ_steps.specs.declared.states.SharedState.{SharedState}
use Rattle.circ_steps.specs.States.{shared_goals, state_at, IsStateThere}

-- what is in front grows to the whole
grows_taken : (k : ℕ) (nodes : List Tree) → Grows (take k nodes) nodes
grows_taken zero nodes = (nodes, refl)
grows_taken (suc k) [] = ([], refl)
grows_taken (suc k) (t ∷ nodes) = let r = grows_taken k nodes in (r.0, ap (λ ts. t ∷ ts) r.1)

map_taken : {X Y : Type 0} (f : X → Y) (k : ℕ) (xs : List X) → map f (take k xs) ≡ take k (map f xs)
map_taken f zero xs = refl
map_taken f (suc k) [] = refl
map_taken f (suc k) (x ∷ xs) = ap (λ ys. f x ∷ ys) (map_taken f k xs)

module _ (old new : List Tree) (k m : ℕ) (s t : SharedState) (nodes : new ≡ take k old) (hyps : t.hyps.items ≡ take m s.hyps.items) (goals : t.goals.items ≡ [])
    (kept : AllByRecursion (IsPattern (take k old)) (take m s.hyps.items)) where
  pub cut_there : IsStateThere new t
  cut_there = record { hypotheses = rw (nodes, hyps) kept; goals = rw goals tt }

  pub cut_seen : state_at new t ≡ state (take m (map (goal_at old) s.hyps.items)) []
  cut_seen =
      let hs : List Pattern = take m s.hyps.items in
      ap (λ ns. state (map (goal_at ns) t.hyps.items) (shared_goals ns t.goals.items)) nodes
      ∙ ap (λ ps. state (map (goal_at (take k old)) ps) (shared_goals (take k old) t.goals.items)) hyps
      ∙ ap (λ gs. state (map (goal_at (take k old)) hs) (shared_goals (take k old) gs)) goals
      ∙ ap (λ H. state H []) (sym (goals_later (take k old) old (grows_taken k old) hs kept) ∙ map_taken (goal_at old) m s.hyps.items)
