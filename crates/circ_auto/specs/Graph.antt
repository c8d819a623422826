-- Graphs whose edges are letters, and the words that lead to a goal.
use Rattle.std.specs.Prelude.{◌≡◌, ℕ, ◌<◌, ◌≤◌, List, [], ◌∷◌, Bool, true, length, Option, Some, None}
use Rattle.std.specs.List.{AllByRecursion}

-- Points are numbers below `points`, and letters numbers below `letters`.
pub record Graph : Type 0 where
  pub points : ℕ
  pub letters : ℕ
  pub start : ℕ
  pub step : ℕ → ℕ → ℕ
  pub goal : ℕ → Bool

-- the point to which the word leads
abbrev pub point_after : Graph → ℕ → List ℕ → ℕ
point_after g p [] = p
point_after g p (x ∷ w) = point_after g (g.step p x) w

abbrev pub IsWord : ℕ → List ℕ → Type 0
IsWord letters w = AllByRecursion (λ x. x < letters) w

-- the word leads from the start to a goal
pub record LeadsToGoal (g : Graph) (w : List ℕ) : Type 0 where
  pub word : IsWord g.letters w
  pub goal : g.goal (point_after g g.start w) ≡ true

-- The answer to a search: a shortest word that leads to a goal, or that there is none.
abbrev pub FindsGoal : Graph → Option (List ℕ) → Type 0
FindsGoal g None = (w : List ℕ) → LeadsToGoal g w → ⊥
FindsGoal g (Some v) = LeadsToGoal g v × ((w : List ℕ) → LeadsToGoal g w → length v ≤ length w)

-- what each graph that is searched has
pub record IsClosedGraph (g : Graph) : Type 0 where
  pub start : g.start < g.points
  pub step : (p x : ℕ) → p < g.points → x < g.letters → g.step p x < g.points
