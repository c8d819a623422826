-- The items of a script: what their words say, and how they stand among the tokens.
use Rattle.std.specs.Prelude.{◌≡◌, ◌⊎◌, List, [], ◌∷◌, Bool, false, if◌then◌else◌, codes}
use Rattle.circ_statement.specs.Words.{Word, is_word}
use Rattle.circ_statement.specs.Said as statement
use Rattle.circ_statement.specs.Said.{SaidSides}
use Rattle.circ_statement.specs.Statement.{IsStatement, IsLeftOut, AreSides, AreUnderConditions}
use Rattle.circ_script.specs.declared.job.Job.{Job}
use Rattle.circ_script.specs.declared.job.Job.TheVariants.{Prove, Differ, Reduce}

-- what an item says, by the words of its text, without any theory
pub data Item : Type 0 where
  variables : (names : List Word) (sort : Word) → Item
  goal : (sides : SaidSides) (conds : List SaidSides) → Item
  coinduction : Item
  reduce : (term : List Word) → Item

-- A goal has one equals sign, between its sides; or it is cut as a `ceq` is, into sides and conditions.
pub data IsGoal (ws : List Word) (sides : SaidSides) : (conds : List SaidSides) → Type 0 where
  bare : (rest : List Word) → ws ≡ codes "add" ∷ codes "goal" ∷ rest → AreSides rest sides → IsGoal ws sides []
  conditional : (rest : List Word) (conds : List SaidSides) → ws ≡ codes "add" ∷ codes "cgoal" ∷ rest → AreUnderConditions rest sides conds
      → IsGoal ws sides conds

-- What the words of an item say, without its parentheses and its stop. Variables are declared by a statement of a theory text.
abbrev pub IsItem : List Word → Item → Type 0
IsItem ws (variables names sort) = IsStatement ws (statement.variables names sort)
IsItem ws (goal sides conds) = IsGoal ws sides conds
IsItem ws coinduction = ws ≡ codes "coinduction" ∷ []
IsItem ws (reduce term) = (ws ≡ codes "reduce" ∷ term) ⊎ (ws ≡ codes "red" ∷ term)

-- goals are proved, or told apart
abbrev pub IsForGoals : Job → Type 0
IsForGoals Prove = Unit {0}
IsForGoals Differ = Unit {0}
IsForGoals Reduce = ⊥

-- what a script may ask for: to prove goals, to tell the sides of goals without conditions apart, or to reduce terms
abbrev pub IsFor : Job → Item → Type 0
IsFor job (variables names sort) = Unit {0}
IsFor job (goal sides conds) = IsForGoals job × (job ≡ Differ → conds ≡ [])
IsFor job coinduction = IsForGoals job
IsFor job (reduce term) = job ≡ Reduce

-- whether the first word is this one
abbrev pub begins_with : Word → List Word → Bool
begins_with w [] = false
begins_with w (v ∷ vs) = is_word v w

-- the words without the first, where that is this one
abbrev pub set_aside : Word → List Word → List Word
set_aside w [] = []
set_aside w (v ∷ vs) = if is_word v w then vs else v ∷ vs

-- an item's words, of the tokens before its stop: an opening parenthesis is set aside
abbrev pub item_words : List Word → List Word
item_words before = set_aside (codes "(") before

-- what is left after an item, of the tokens after its stop: a closing parenthesis is set aside
abbrev pub left_after : List Word → List Word
left_after after = set_aside (codes ")") after

-- The tokens before and after a stop are an item that the job may have, with both parentheses or none, and no word leaves them out.
pub record IsItemFor (job : Job) (before after : List Word) (item : Item) : Type 0 where
  pub kept : (w : Word) → IsLeftOut (item_words before) w → ⊥
  pub says : IsItem (item_words before) item
  pub is_for : IsFor job item
  pub paired : begins_with (codes ")") after ≡ begins_with (codes "(") before
