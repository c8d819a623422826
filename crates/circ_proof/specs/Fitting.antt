-- When parts fit a theory, as far as they go: they stand in the order of a proof's parts, and all that is asked of a proof of version 2 holds of them but what
-- asks for parts that are still to come.
use Rattle.std.specs.Prelude.{◌≡◌, ◌≢◌, ℕ, ◌+◌, ◌<◌, ◌≤◌, List, [], ◌∷◌, length, map}
use Rattle.std.specs.List.{AllByRecursion}
use Rattle.circ_term.specs.Tree.{Tree}
use Rattle.circ_term.specs.Limits.{IsWithinLimits}
use Rattle.circ_theory.specs.Signature.{IsWellSorted}
use Rattle.circ_theory.specs.Theory.{Theory}
use Rattle.circ_theory.specs.Goal.{Goal}
use Rattle.circ_special.specs.declared.place.Place.{Place}
use Rattle.circ_special.specs.Special.{IsSet}
use Rattle.circ_proof.specs.Table.{term_limit}
use Rattle.circ_proof.specs.Rules.{Done}
use Rattle.circ_proof.specs.Certified.{due}
use Rattle.circ_proof.specs.Proof.{AreEntries, AreLinksFor, GoalNames, IsNameFor, IsStepFor, goal_at, step_limit}
use Rattle.circ_proof.specs.Parts.{Part, Head, Certificate, Goals, Step}

pub record IsHeadFor (th : Theory) (table : List Tree) (places : List Place) : Type 0 where
  pub sorted : AllByRecursion (IsWellSorted th.signature) table
  pub within : AllByRecursion IsWithinLimits table
  pub entries : AreEntries [] table
  pub short_table : length table ≤ term_limit
  pub set : IsSet th places

pub record AreGoalsFor (th : Theory) (table : List Tree) (goals : List Goal) (names : List GoalNames) : Type 0 where
  pub some_goal : names ≢ []
  pub names_fit : AllByRecursion (IsNameFor th table) names
  pub goals_are : goals ≡ map (goal_at table) names

-- The steps of a block, up to its Done, and further blocks, where m steps were before.
abbrev mutual
  pub FitSteps : Theory → (table : List Tree) → (m : ℕ) → List Part → Type 0
  FitSteps th table m [] = Unit {0}
  FitSteps th table m (Step Done ∷ xs) = (m < step_limit) × FitBlocks th table (m + 1) xs
  FitSteps th table m (Step s ∷ xs) = (m < step_limit) × IsStepFor (length table) s × FitSteps th table (m + 1) xs
  FitSteps th table m _ = ⊥

  pub FitBlocks : Theory → (table : List Tree) → (m : ℕ) → List Part → Type 0
  FitBlocks th table m [] = Unit {0}
  FitBlocks th table m (Goals goals names ∷ xs) = AreGoalsFor th table goals names × FitSteps th table m xs
  FitBlocks th table m _ = ⊥

-- Certificates, where n were before, and then blocks, where there is one for each that is due.
abbrev pub FitRest : Theory → (table : List Tree) → (places : List Place) → (n : ℕ) → List Part → Type 0
FitRest th table places n (Certificate links ∷ xs) = (n < length (due th places)) × AreLinksFor (length table) links × FitRest th table places (n + 1) xs
FitRest th table places n (Goals goals names ∷ xs) = (n ≡ length (due th places)) × FitBlocks th table 0 (Goals goals names ∷ xs)
FitRest th table places n [] = Unit {0}
FitRest th table places n _ = ⊥

abbrev pub Fit : Theory → List Part → Type 0
Fit th [] = Unit {0}
Fit th (Head table places ∷ xs) = IsHeadFor th table places × FitRest th table places 0 xs
Fit th _ = ⊥
