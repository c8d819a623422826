-- The words of the command line, as `clap` reads them. Two options have a value each, two flags have none, the first other word names the command, and one
-- word or more are left for it.
use Rattle.std.specs.Prelude.{◌≡◌, ◌↔◌, ◌≤◌, ℕ, Bool, IsTrue, List, Option, Some, None, true, codes, decimal}
use Rattle.clap.specs.Lexer.{usize_max}
use Rattle.clap.specs.Simple.{App, new_app, new_rule, with_rule}
use Rattle.clap.specs.Walk.{Row, Rule, all_of, first_of}
use Rattle.clap.specs.declared.builder.action.ArgAction.TheVariants.{SetTrue}
use Rattle.circ_turn.specs.declared.search.Limits.{Limits}

abbrev pub steps_rule : Rule
steps_rule = record (new_rule (codes "steps")) { long = Some (codes "steps") }

abbrev pub derives_rule : Rule
derives_rule = record (new_rule (codes "derives")) { long = Some (codes "derives") }

abbrev pub split_rule : Rule
split_rule = record (new_rule (codes "split")) { long = Some (codes "split"); action = Some SetTrue }

abbrev pub rewrite_rule : Rule
rewrite_rule = record (new_rule (codes "rewrite")) { long = Some (codes "rewrite"); action = Some SetTrue }

abbrev pub command_rule : Rule
command_rule = record (new_rule (codes "command")) { required = true }

abbrev pub words_rule : Rule
words_rule = record (new_rule (codes "words")) { required = true; range = Some (record { start_inclusive = 1; end_inclusive = usize_max }) }

-- the simple command that `clap` is asked for
abbrev pub circ_app : App
circ_app =
    with_rule (with_rule (with_rule (with_rule (with_rule (with_rule (new_app (codes "circ")) steps_rule) derives_rule) split_rule) rewrite_rule) command_rule)
    words_rule

-- The text is no number within the limit.
abbrev pub IsNoNumber : (most : ℕ) → (text : List ℕ) → Type 0
IsNoNumber most text = (n : ℕ) → text ≡ decimal n → n ≤ most → ⊥

-- A budget: the usual one where the option is left out, else its value, a number in decimal digits within the limit.
abbrev pub IsBudget : (usual most : ℕ) → (value : Option (List ℕ)) → ℕ → Type 0
IsBudget usual most None n = n ≡ usual
IsBudget usual most (Some text) n = (text ≡ decimal n) × (n ≤ most)

abbrev pub IsNoBudget : (usual most : ℕ) → (value : Option (List ℕ)) → Type 0
IsNoBudget usual most value = (n : ℕ) → IsBudget usual most value n → ⊥

-- A flag is set where its value is `true`, which it has by its word.
abbrev pub IsFlag : (value : Option (List ℕ)) → Bool → Type 0
IsFlag value b = IsTrue b ↔ (value ≡ Some (codes "true"))

-- What stands in the rows that `clap` finds: the limits, the command's name, and the words that are given to it.
pub record Finds (rows : List Row) (limits : Limits) (name : List ℕ) (given : List (List ℕ)) : Type 0 where
  pub steps : IsBudget 100000 1000000 (first_of (codes "steps") rows) limits.steps
  pub derives : IsBudget 256 10000 (first_of (codes "derives") rows) limits.derives
  pub split : IsFlag (first_of (codes "split") rows) limits.split
  pub rewrite : IsFlag (first_of (codes "rewrite") rows) limits.rewrite
  pub name_is : first_of (codes "command") rows ≡ Some name
  pub given_are : all_of (codes "words") rows ≡ Some given

abbrev pub FindsNothing : List Row → Type 0
FindsNothing rows = (limits : Limits) (name : List ℕ) (given : List (List ℕ)) → Finds rows limits name given → ⊥
