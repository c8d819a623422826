-- The goals of a proof by number, and which entry of an experiment on one does not fit.
use Rattle.std.specs.Prelude.{◌≡◌, ℕ, List, [], ◌∷◌, ◌++◌, Option, Some}
use Rattle.std.specs.List.{slice_get}
use Rattle.std.specs.Option.{option_map_or}
use Rattle.circ_term.specs.Tree.{sort_of}
use Rattle.circ_theory.specs.Theory.{Theory}
use Rattle.circ_theory.specs.Goal.{Goal}
use Rattle.circ_proof.specs.Proof.{Block, Proof}
use Rattle.circ_entry.specs.Entries.{Written, FitsWritten, first_misfit}

-- the goals of all blocks, in order
abbrev pub all_goals : List Block → List Goal
all_goals [] = []
all_goals (b ∷ bs) = b.goals ++ all_goals bs

-- 0 where there is no goal of this number, counted from 0; else the first entry that does not fit its sort
abbrev pub goal_misfit : Theory → Proof → (number : ℕ) → List Written → Option ℕ
goal_misfit th p n ws = option_map_or (λ g. first_misfit th 1 (sort_of g.left) ws) (slice_get (all_goals p.blocks) n) (Some 0)

-- there is a goal of this number, and the entries fit its sort
abbrev pub FitGoal : Theory → Proof → (number : ℕ) → List Written → Type 0
FitGoal th p n ws = (g : Goal) × (slice_get (all_goals p.blocks) n ≡ Some g) × FitsWritten th ws (sort_of g.left)
