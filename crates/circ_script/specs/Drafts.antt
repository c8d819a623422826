-- What the items of a script have said so far.
use Rattle.std.specs.Prelude.{◌≡◌, ◌≢◌, List, []}
use Rattle.circ_term.specs.Tree.{Tree}
use Rattle.circ_theory.specs.Goal.{Goal}
use Rattle.circ_theory.specs.Theory.{Theory}
use Rattle.circ_script.specs.declared.job.Job.{Job}
use Rattle.circ_script.specs.declared.job.Job.TheVariants.{Prove, Differ, Reduce}
use Rattle.circ_script.specs.Script.{Script}

-- the theory, in which the script's variables are declared after its own; the closed blocks; the goals since the last of them; the terms
pub record Draft : Type 0 where
  pub theory : Theory
  pub blocks : List (List Goal)
  pub goals : List Goal
  pub terms : List Tree

-- before the first item
abbrev pub first_draft : Theory → Draft
first_draft th = record { theory = th; blocks = []; goals = []; terms = [] }

-- There is what the job is done on.
abbrev pub AsksFor : Job → Draft → Type 0
AsksFor Prove d = d.blocks ≢ []
AsksFor Differ d = d.blocks ≢ []
AsksFor Reduce d = d.terms ≢ []

-- No goal is open, and there is work.
pub record IsFinished (job : Job) (d : Draft) : Type 0 where
  pub closed : d.goals ≡ []
  pub asks : AsksFor job d

abbrev pub script_of : Draft → Script
script_of d = record { blocks = d.blocks; terms = d.terms }
