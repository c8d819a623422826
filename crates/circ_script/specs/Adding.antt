-- What an item that is accepted adds.
use Rattle.std.specs.Prelude.{◌≡◌, ◌≢◌, ℕ, ◌+◌, List, [], ◌∷◌, ◌++◌, length, Option, None, false, codes}
use Rattle.std.specs.Option.{option_map, option_or}
use Rattle.circ_term.specs.Tree.{Tree}
use Rattle.circ_theory.specs.Adding.{hidden_condition, long_fault}
use Rattle.circ_theory.specs.Limits.{condition_limit}
use Rattle.circ_theory.specs.Theory.{Theory, Pair}
use Rattle.circ_theory.specs.declared.fault.TheoryFault.{TheoryFault}
use Rattle.circ_theory.specs.declared.fault.TheoryFault.TheVariants.{NotVisible}
use Rattle.circ_theory.specs.Goal.{Goal}
use Rattle.circ_mixfix.specs.Answers.{long_count, first_long, ReadsOnly}
use Rattle.circ_statement.specs.Words.{Word}
use Rattle.circ_statement.specs.Said as statement
use Rattle.circ_read.specs.Adding.{AddsStatement, ReadsAlone, equation_lists, goal_terms, ReadsEquation}
use Rattle.circ_read.specs.Text.{HasNoStop}
use Rattle.circ_script.specs.declared.job.Job.{Job}
use Rattle.circ_script.specs.Items.{Item, variables, goal, coinduction, reduce, IsItemFor, left_after}
use Rattle.circ_script.specs.Drafts.{Draft}

-- the readings of a term to be reduced
abbrev pub ReadsTerm : Theory → (term : List Word) → List Tree → Type 0
ReadsTerm th term ts = ReadsOnly th.signature th.variables false term ts

-- why a goal with these conditions is not added: the first of a hidden sort, or else that they are too many
abbrev pub goal_fault : Theory → (conds : List Pair) → Option TheoryFault
goal_fault th E = option_or (option_map NotVisible (hidden_condition th E)) (long_fault condition_limit (length E))

-- The only reading of the sides and the conditions, which is read as that of an equation, is one goal more.
pub record AddsGoal (d : Draft) (lists : List (List Word)) (e : Draft) : Type 0 where
  pub says : Goal
  pub alone : ReadsAlone (first_long lists) (ReadsEquation d.theory lists) (goal_terms says)
  pub no_fault : goal_fault d.theory says.conds ≡ None
  pub is : e ≡ record d { goals = d.goals ++ says ∷ [] }

-- The only reading of the words is one term more.
pub record AddsTerm (d : Draft) (words : List Word) (e : Draft) : Type 0 where
  pub term : Tree
  pub alone : ReadsAlone (long_count words) (ReadsTerm d.theory words) (term ∷ [])
  pub is : e ≡ record d { terms = d.terms ++ term ∷ [] }

-- Variables are declared as by a statement of a theory text, and `coinduction` closes a block of one goal at least.
abbrev pub AddsItem : Draft → Item → Draft → Type 0
AddsItem d (variables names sort) e = AddsStatement d.theory (statement.variables names sort) e.theory × (e ≡ record d { theory = e.theory })
AddsItem d (goal sides conds) e = AddsGoal d (equation_lists sides.left sides.right conds) e
AddsItem d coinduction e = (d.goals ≢ []) × (e ≡ record d { blocks = d.blocks ++ d.goals ∷ []; goals = [] })
AddsItem d (reduce term) e = AddsTerm d term e

-- The tokens before and after a stop are an item that the job may have, which adds this.
pub record TakesItem (job : Job) (d : Draft) (before after : List Word) (e : Draft) : Type 0 where
  pub item : Item
  pub is : IsItemFor job before after item
  pub adds : AddsItem d item e

-- After k items, from the first token on, the draft is `now`, and these tokens are left. An item ends at the next stop.
pub data TakesItems (job : Job) (first : Draft) (tokens : List Word) : (k : ℕ) (now : Draft) (left : List Word) → Type 0 where
  start : TakesItems job first tokens 0 first tokens
  next : (k : ℕ) (d e : Draft) (here before after : List Word) → TakesItems job first tokens k d here → here ≡ before ++ codes "." ∷ after
      → HasNoStop before → TakesItem job d before after e → TakesItems job first tokens (k + 1) e (left_after after)
