-- Why a script is refused: its first cause, and the number of the item.
use Rattle.std.specs.Prelude.{◌≡◌, ◌≢◌, ◌⊎◌, ℕ, ◌+◌, List, [], ◌∷◌, ◌++◌, false, codes}
use Rattle.circ_term.specs.Tree.{Tree}
use Rattle.circ_lexer.specs.declared.fault.LexFault.{LexFault}
use Rattle.circ_lexer.specs.Cuts.{IsFirstBad}
use Rattle.circ_lexer.specs.TokenList.{AreTokens}
use Rattle.circ_theory.specs.Theory.{Theory}
use Rattle.circ_theory.specs.Goal.{Goal}
use Rattle.circ_mixfix.specs.Answers.{long_count, first_long}
use Rattle.circ_statement.specs.Words.{Word}
use Rattle.circ_statement.specs.Said as statement
use Rattle.circ_statement.specs.Statement.{IsLeftOut}
use Rattle.circ_read.specs.declared.cause.Cause.{Cause}
use Rattle.circ_read.specs.declared.cause.Cause.TheVariants as cause
use Rattle.circ_read.specs.Causes.{byte_cause}
use Rattle.circ_read.specs.Adding.{ReadsAlone, equation_lists, goal_terms, ReadsEquation}
use Rattle.circ_read.specs.Refusing.{RefusesStatement, ReadsNotAlone, IsCauseOf, shown_text}
use Rattle.circ_read.specs.Text.{HasNoStop}
use Rattle.circ_script.specs.declared.job.Job.{Job}
use Rattle.circ_script.specs.Items.{Item, variables, goal, coinduction, reduce, IsItemFor, item_words}
use Rattle.circ_script.specs.Drafts.{Draft, first_draft, AsksFor}
use Rattle.circ_script.specs.Adding.{ReadsTerm, goal_fault, TakesItems}

-- a term as it is printed, and a goal
abbrev pub reading_text : Theory → List Tree → List ℕ
reading_text th ts = shown_text false th ts

-- The token lists of a goal do not read as the only terms, or else its conditions have a fault.
abbrev pub RefusesGoal : Theory → List (List Word) → Cause → Type 0
RefusesGoal th lists c =
    ReadsNotAlone (first_long lists) (ReadsEquation th lists) (reading_text th) c
    ⊎ ((g : Goal) × (ReadsAlone (first_long lists) (ReadsEquation th lists) (goal_terms g) × IsCauseOf (goal_fault th g.conds) c))

-- What an item says has this first cause.
abbrev pub RefusesItem : Draft → Item → Cause → Type 0
RefusesItem d (variables names sort) c = RefusesStatement d.theory (statement.variables names sort) c
RefusesItem d (goal sides conds) c = RefusesGoal d.theory (equation_lists sides.left sides.right conds) c
RefusesItem d coinduction c = (d.goals ≡ []) × (c ≡ cause.NoGoal)
RefusesItem d (reduce term) c = ReadsNotAlone (long_count term) (ReadsTerm d.theory term) (reading_text d.theory) c

-- The tokens before and after a stop are refused: they are left out, by a word; or are no item that the job may have; or what they say is refused.
pub data TakesNoItem (job : Job) (d : Draft) (before after : List Word) : Cause → Type 0 where
  left_out : (w : Word) → IsLeftOut (item_words before) w → TakesNoItem job d before after (cause.LeftOut w)
  no_shape : ((w : Word) → IsLeftOut (item_words before) w → ⊥) → ((item : Item) → IsItemFor job before after item → ⊥)
      → TakesNoItem job d before after cause.Shape
  is_refused : (item : Item) (c : Cause) → IsItemFor job before after item → RefusesItem d item c → TakesNoItem job d before after c

-- At the end goals are open; or else there is nothing that the job is done on.
pub data IsUnfinished (job : Job) (d : Draft) : Cause → Type 0 where
  open_goals : d.goals ≢ [] → IsUnfinished job d cause.Unclosed
  no_work : d.goals ≡ [] → (AsksFor job d → ⊥) → IsUnfinished job d cause.NoGoal

-- After k items comes this cause: of the item that is next; or since tokens without a stop are left; or at the end.
pub data StopsAt (job : Job) (first : Draft) (tokens : List Word) : (k : ℕ) → Cause → Type 0 where
  at_an_item : (k : ℕ) (d : Draft) (here before after : List Word) (c : Cause) → TakesItems job first tokens k d here
      → here ≡ before ++ codes "." ∷ after → HasNoStop before → TakesNoItem job d before after c → StopsAt job first tokens k c
  at_a_cut : (k : ℕ) (d : Draft) (left : List Word) → TakesItems job first tokens k d left → left ≢ [] → HasNoStop left
      → StopsAt job first tokens k cause.Shape
  at_the_end : (k : ℕ) (d : Draft) (c : Cause) → TakesItems job first tokens k d [] → IsUnfinished job d c → StopsAt job first tokens k c

-- The first cause in the bytes is this one. Its number is that of its item, from 1; the end has the next number, and a bad byte the number 0.
pub data FirstScriptCause (th : Theory) (job : Job) (bytes : List ℕ) : (number : ℕ) → Cause → Type 0 where
  at_a_byte : (f : LexFault) → IsFirstBad bytes f → FirstScriptCause th job bytes 0 (byte_cause f)
  in_the_text : (tokens : List Word) (k : ℕ) (c : Cause) → AreTokens bytes tokens → StopsAt job (first_draft th) tokens k c
      → FirstScriptCause th job bytes (k + 1) c
