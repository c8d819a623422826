-- What is true of each script that is read.
use Rattle.std.specs.Prelude.{◌≡◌, ◌≢◌, ◌≤◌, ◌*◌, ℕ, List, [], length}
use Rattle.std.specs.List.{Contains, AllByRecursion}
use Rattle.circ_term.specs.Tree.{Tree}
use Rattle.circ_theory.specs.Limits.{condition_limit}
use Rattle.circ_theory.specs.Signature.{Signature, IsWellSorted}
use Rattle.circ_theory.specs.Goal.{Goal}
use Rattle.circ_theory.specs.Theory.{Theory, IsWellSortedGoal}
use Rattle.circ_theory.specs.Variables.{occurrences}
use Rattle.circ_read.specs.Adding.{goal_terms}
use Rattle.circ_script.specs.declared.job.Job.{Job}
use Rattle.circ_script.specs.declared.job.Job.TheVariants.{Prove, Differ, Reduce}
use Rattle.circ_script.specs.Script.{Script}

-- No variable has a number above n.
abbrev pub HasNumbersUpTo : (n : ℕ) → Tree → Type 0
HasNumbersUpTo n t = AllByRecursion (λ v. v.number ≤ n) (occurrences t)

-- Both sides are well-sorted, of one sort, and at most eight conditions are such pairs of visible sorts. Numbers of variables are low, since
-- each of the goal's terms has 256 tokens at most.
pub record IsFitGoal (th : Theory) (g : Goal) : Type 0 where
  pub sorted : IsWellSortedGoal th g
  pub few_conds : length g.conds ≤ condition_limit
  pub low : AllByRecursion (HasNumbersUpTo (256 * length (goal_terms g))) (goal_terms g)

pub record IsFitTerm (sig : Signature) (t : Tree) : Type 0 where
  pub sorted : IsWellSorted sig t
  pub low : HasNumbersUpTo 256 t

-- Goals and terms are such, and no block is empty.
pub record IsFit (th : Theory) (s : Script) : Type 0 where
  pub goals : (block : List Goal) (g : Goal) → Contains s.blocks block → Contains block g → IsFitGoal th g
  pub some : (block : List Goal) → Contains s.blocks block → block ≢ []
  pub terms : (t : Tree) → Contains s.terms t → IsFitTerm th.signature t

-- no goal has conditions
abbrev pub AreBare : (blocks : List (List Goal)) → Type 0
AreBare blocks = (block : List Goal) (g : Goal) → Contains blocks block → Contains block g → g.conds ≡ []

-- There is a block, or a term, and nothing that is for another job.
abbrev pub IsScriptFor : Job → Script → Type 0
IsScriptFor Prove s = (s.blocks ≢ []) × (s.terms ≡ [])
IsScriptFor Differ s = (s.blocks ≢ []) × (s.terms ≡ []) × AreBare s.blocks
IsScriptFor Reduce s = (s.terms ≢ []) × (s.blocks ≡ [])
