-- How loosely tokens bind.
use Rattle.std.specs.Prelude.{◌≡◌, ◌<◌, ◌≤◌, ◌+◌, ℕ, List, [], ◌∷◌, length, get_or, max, Some}
use Rattle.std.specs.List.{slice_get}
use Rattle.circ_spelling.specs.declared.grammar.Symbol.{Symbol}
use Rattle.circ_spelling.specs.declared.grammar.Symbol.TheVariants.{Word, Hole}
use Rattle.circ_spelling.specs.declared.grammar.Rule.{Rule}
use Rattle.circ_spelling.specs.declared.grammar.Variable.{Variable}
use Rattle.circ_spelling.specs.declared.grammar.Grammar.{Grammar}
use Rattle.circ_spelling.specs.Limits.{opening}
use Rattle.circ_spelling.specs.Reads.{IsToken}
use Rattle.circ_chart.specs.declared.levels.Levels.{Levels}
use Rattle.circ_chart.specs.Places.{Skips, next_of}

-- wherever the word stands the level is at most p
abbrev pub IsAtMost : List ℕ → List ℕ → ℕ → ℕ → Type 0
IsAtMost ts ls w p = (m : ℕ) → IsToken ts m w → get_or ls m 0 ≤ p

-- so for each word of the symbols, and no hole takes terms of a precedence above p
abbrev pub AreAtMost : List ℕ → List ℕ → ℕ → List Symbol → Type 0
AreAtMost ts ls p [] = Unit {0}
AreAtMost ts ls p (Word w ∷ ps) = IsAtMost ts ls w p × AreAtMost ts ls p ps
AreAtMost ts ls p (Hole s b ∷ ps) = (b ≤ p + 1) × AreAtMost ts ls p ps

-- so for the first k rules, as far as they are of a precedence below the bound
abbrev pub RulesAtMost : List ℕ → List ℕ → List Rule → ℕ → ℕ → Type 0
RulesAtMost ts ls rs k bound = (n : ℕ) (r : Rule) → n < k → slice_get rs n ≡ Some r → r.prec < bound → AreAtMost ts ls r.prec r.symbols.items

-- the first k variables have the level 0
abbrev pub VariablesAtMost : List ℕ → List ℕ → List Variable → ℕ → Type 0
VariablesAtMost ts ls vs k = (n : ℕ) (v : Variable) → n < k → slice_get vs n ≡ Some v → IsAtMost ts ls v.word 0

-- up to the bound, each rule and each variable has only tokens of levels that are at most its precedence
pub record AreLevels (g : Grammar) (ts : List ℕ) (l : Levels) : Type 0 where
  pub rules : RulesAtMost ts l.tokens.items g.rules.items (length g.rules.items) l.bound
  pub variables : 0 < l.bound → VariablesAtMost ts l.tokens.items g.variables.items (length g.variables.items)
  pub opened : Skips ts (Word opening ∷ []) l.opened.next.items

-- a token from i up to j has a level that is not below b, and no parenthesis is opened from i up to it
pub record IsAbove (l : Levels) (b i j : ℕ) : Type 0 where
  pub bounded : b ≤ l.bound
  pub place : ℕ
  pub low : i ≤ place
  pub high : place < j
  pub clear : place < max i (next_of l.opened.next.items i)
  pub above : b ≤ get_or l.tokens.items place 0
