-- What the steps of the reader answer.
use Rattle.std.specs.Prelude.{◌≡◌, ◌⊎◌, ◌<◌, ◌≤◌, ◌+◌, ℕ, List, [], ◌∷◌, ◌++◌, false, map, codes, Option, Some, None, Result, Ok, Err}
use Rattle.std.specs.List.{AllByRecursion}
use Rattle.circ_lexer.specs.TokenList.{TokenList, tokens_in, IsWithin}
use Rattle.circ_lexer.specs.declared.tokens.Span.{Span}
use Rattle.circ_term.specs.Tree.{Tree}
use Rattle.circ_theory.specs.Theory.{Theory}
use Rattle.circ_theory.specs.declared.fault.TheoryFault.{TheoryFault}
use Rattle.circ_theory.specs.Goal.{Goal}
use Rattle.circ_script.specs.declared.script.Script as made
use Rattle.circ_mixfix.specs.declared.parse.ParseFault.{ParseFault}
use Rattle.circ_statement.specs.declared.statements.Sides.{Sides}
use Rattle.circ_statement.specs.declared.statements.Statement.{Statement}
use Rattle.circ_statement.specs.declared.statements.Statement.TheVariants as said
use Rattle.circ_statement.specs.Words.{Word}
use Rattle.circ_statement.specs.Said as statement
use Rattle.circ_statement.specs.Said.{sides_of, token_at, IsPlace}
use Rattle.circ_statement.specs.Statement.{IsStatement, IsLeftOut}
use Rattle.circ_read.specs.declared.cause.Cause.{Cause}
use Rattle.circ_read.specs.declared.cause.Cause.TheVariants as cause
use Rattle.circ_read.specs.declared.cause.Fault.{Fault}
use Rattle.circ_read.specs.declared.cause.Fault.TheVariants.{Because, Memory}
use Rattle.circ_read.specs.declared.cause.ReadFault.{ReadFault}
use Rattle.circ_read.specs.declared.cause.ReadFault.TheVariants as at
use Rattle.circ_read.specs.Causes.{cause_of}
use Rattle.circ_read.specs.Includes.{with_variables}
use Rattle.circ_read.specs.Outcomes.{goal_of_terms}
use Rattle.circ_read.specs.Steps.{IsNoReading}
use Rattle.circ_script.specs.declared.job.Job.{Job}
use Rattle.circ_script.specs.declared.job.Job.TheVariants.{Differ}
use Rattle.circ_script.specs.declared.adding.Asked.{Asked}
use Rattle.circ_script.specs.declared.items.FoundItem.{FoundItem}
use Rattle.circ_script.specs.declared.items.FoundItem.TheVariants as at_tokens
use Rattle.circ_script.specs.Script.{plain_script}
use Rattle.circ_script.specs.Items.{Item, variables, goal, coinduction, reduce, IsItem, IsForGoals, begins_with}
use Rattle.circ_script.specs.Drafts.{Draft, IsFinished, script_of}
use Rattle.circ_script.specs.Adding.{goal_fault, AddsItem, TakesItem, TakesItems}
use Rattle.circ_script.specs.Refusing.{RefusesItem, TakesNoItem, IsUnfinished, StopsAt}

-- the second theory is the first, perhaps with other variables
abbrev pub IsButVariables : Theory → Theory → Type 0
IsButVariables th u = u ≡ with_variables th u.variables

-- the tokens after this first word
pub record IsRestAfter (ts : TokenList) (span rest : Span) (w : Word) : Type 0 where
  pub words : tokens_in ts span ≡ w ∷ tokens_in ts rest
  pub within : IsWithin ts rest
  pub from : span.from ≤ rest.from
  pub to : rest.to ≡ span.to

abbrev pub GivesRest : Option Span → TokenList → Span → Word → Type 0
GivesRest None ts span w = begins_with w (tokens_in ts span) ≡ false
GivesRest (Some rest) ts span w = IsRestAfter ts span rest w

-- what an item of the code says
abbrev pub item_of : TokenList → FoundItem → Item
item_of ts (at_tokens.Variables names sort) = variables (tokens_in ts names) (token_at ts sort)
item_of ts (at_tokens.Goal sides conds) = goal (sides_of ts sides) (map (sides_of ts) conds.items)
item_of ts at_tokens.Coinduction = coinduction
item_of ts (at_tokens.Reduce term) = reduce (tokens_in ts term)

-- Its places and spans lie within the tokens.
abbrev pub LieWithin : TokenList → FoundItem → Type 0
LieWithin ts (at_tokens.Variables names sort) = IsWithin ts names × IsPlace ts sort
LieWithin ts (at_tokens.Goal sides conds) =
    IsWithin ts sides.left × IsWithin ts sides.right × AllByRecursion (λ s. IsWithin ts s.left × IsWithin ts s.right) conds.items
LieWithin ts at_tokens.Coinduction = Unit {0}
LieWithin ts (at_tokens.Reduce term) = IsWithin ts term

-- an item that is such, by its places
abbrev pub GivesFound : Option FoundItem → TokenList → (Item → Type 0) → Type 0
GivesFound None ts Is = (item : Item) → Is item → ⊥
GivesFound (Some p) ts Is = Is (item_of ts p) × LieWithin ts p

-- whether a script for a job may have a goal with these conditions
abbrev pub MayHaveGoal : Job → List Sides → Type 0
MayHaveGoal job conds = IsForGoals job × (job ≡ Differ → conds ≡ [])

-- the tokens of a term that is to be reduced
abbrev pub GivesTerm : Option Span → TokenList → List Word → Type 0
GivesTerm None ts ws = (begins_with (codes "reduce") ws ≡ false) × (begins_with (codes "red") ws ≡ false)
GivesTerm (Some term) ts ws = IsItem ws (reduce (tokens_in ts term)) × IsWithin ts term

-- The words declare variables.
abbrev pub IsDeclaration : List Word → Item → Type 0
IsDeclaration ws (variables names sort) = IsStatement ws (statement.variables names sort)
IsDeclaration ws (goal sides conds) = ⊥
IsDeclaration ws coinduction = ⊥
IsDeclaration ws (reduce term) = ⊥

-- the variables that a statement of the code declares
abbrev pub declaration : Statement → Option FoundItem
declaration (said.Inclusion name) = None
declaration (said.Sorts names) = None
declaration (said.Operators forms args result a c i) = None
declaration (said.Variables names sort) = Some (at_tokens.Variables names sort)
declaration (said.Equation left right conds exec) = None
declaration (said.Derivative term) = None
declaration (said.Cases sort names) = None

-- The words are left out, by one of them; or else they are no such item.
pub data IsNoItem (ws : List Word) (Is : Item → Type 0) : Cause → Type 0 where
  out : (w : Word) → IsLeftOut ws w → IsNoItem ws Is (cause.LeftOut w)
  no_item : ((w : Word) → IsLeftOut ws w → ⊥) → ((item : Item) → Is item → ⊥) → IsNoItem ws Is cause.Shape

abbrev pub GivesItem : Result FoundItem Fault → TokenList → List Word → (Item → Type 0) → Type 0
GivesItem (Ok p) ts ws Is = Is (item_of ts p) × LieWithin ts p × ((w : Word) → IsLeftOut ws w → ⊥)
GivesItem (Err (Because c)) ts ws Is = IsNoItem ws Is c
GivesItem (Err Memory) ts ws Is = Unit {0}

abbrev pub shaped : Option FoundItem → Result FoundItem Fault
shaped None = Err (Because cause.Shape)
shaped (Some p) = Ok p

-- the cause that a fault of reading terms is, or out of memory
abbrev pub IsUnread : Fault → Theory → ParseFault → Type 0
IsUnread f th fault = IsNoReading false f th fault

-- the goals with one more, where its conditions have no fault
abbrev pub unless_fault : Option TheoryFault → List Goal → Result (List Goal) Cause
unless_fault None gs = Ok gs
unless_fault (Some f) gs = Err (cause_of f)

abbrev pub goal_added : Theory → List Goal → Option Goal → Result (List Goal) Cause
goal_added th gs None = Err cause.NoParse
goal_added th gs (Some g) = unless_fault (goal_fault th g.conds) (gs ++ g ∷ [])

-- the goals with the one that the terms are
abbrev pub terms_added : Theory → List Goal → List Tree → Result (List Goal) Cause
terms_added th gs ts = goal_added th gs (goal_of_terms ts)

-- the draft of what was asked for, in a theory
abbrev pub draft_of : Theory → Asked → Draft
draft_of th a =
    record { theory = th; blocks = map (λ b. b.items) a.blocks.items; goals = a.goals.items; terms = a.terms.items }

-- an item's outcome, and that of the tokens before and after a stop
abbrev pub ItemOutcome : Draft → Item → Result Draft Cause → Type 0
ItemOutcome d item (Ok e) = AddsItem d item e
ItemOutcome d item (Err c) = RefusesItem d item c

abbrev pub TakingOutcome : Job → Draft → (before after : List Word) → Result Draft Cause → Type 0
TakingOutcome job d before after (Ok e) = TakesItem job d before after e
TakingOutcome job d before after (Err c) = TakesNoItem job d before after c

-- whether a script can end with these tokens left
abbrev pub GivesEnd : Option Cause → Job → Draft → (left : Span) → Type 0
GivesEnd None job d left = (left.to ≤ left.from) × IsFinished job d
GivesEnd (Some c) job d left = ((left.from < left.to) × (c ≡ cause.Shape)) ⊎ ((left.to ≤ left.from) × IsUnfinished job d c)

-- The items lead to a finished draft, or the first cause is this one.
abbrev pub GivesDraft : Result (Unit {0}) ReadFault → Job → (first last : Draft) → List Word → Type 0
GivesDraft (Ok u) job first last ws = (k : ℕ) × TakesItems job first ws k last [] × IsFinished job last
GivesDraft (Err (at.Statement n c)) job first last ws = (k : ℕ) × (n ≡ k + 1) × StopsAt job first ws k c
GivesDraft (Err at.Memory) job first last ws = Unit {0}

-- the same for the script of the last draft
pub record IsReadFrom (job : Job) (first : Draft) (ws : List Word) (s : made.Script) : Type 0 where
  pub count : ℕ
  pub last : Draft
  pub items : TakesItems job first ws count last []
  pub finished : IsFinished job last
  pub is : plain_script s ≡ script_of last

abbrev pub GivesScriptFrom : Result made.Script ReadFault → Job → (first : Draft) → List Word → Type 0
GivesScriptFrom (Ok s) job first ws = IsReadFrom job first ws s
GivesScriptFrom (Err (at.Statement n c)) job first ws = (k : ℕ) × (n ≡ k + 1) × StopsAt job first ws k c
GivesScriptFrom (Err at.Memory) job first ws = Unit {0}
