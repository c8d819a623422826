-- What the ranges of one token list spell.
use Rattle.std.specs.Prelude.{◌≡◌, ◌<◌, ◌+◌, ℕ, List, [], ◌∷◌, length, get_or, Some}
use Rattle.std.specs.List.{slice_get}
use Rattle.circ_term.specs.Tree.{Tree, Trees, Var, App, none, more}
use Rattle.circ_spelling.specs.declared.grammar.Symbol.{Symbol}
use Rattle.circ_spelling.specs.declared.grammar.Symbol.TheVariants.{Word, Hole}
use Rattle.circ_spelling.specs.declared.grammar.Rule.{Rule}
use Rattle.circ_spelling.specs.declared.grammar.Variable.{Variable}
use Rattle.circ_spelling.specs.declared.grammar.Grammar.{Grammar}
use Rattle.circ_spelling.specs.Limits.{opening, closing, every}

-- the token at place i is w
pub record IsToken (ts : List ℕ) (i w : ℕ) : Type 0 where
  pub inside : i < length ts
  pub is : get_or ts i 0 ≡ w

mutual
  -- the tokens from i up to j spell a term of the sort s, of a precedence below b
  pub data Reads (g : Grammar) (ts : List ℕ) : ℕ → ℕ → ℕ → ℕ → Tree → Type 0 where
    by_parentheses : {b s i j : ℕ} {t : Tree} (m : ℕ) → 0 < b → IsToken ts i opening → Reads g ts every s (i + 1) m t → IsToken ts m closing → j ≡ m + 1
        → Reads g ts b s i j t
    by_variable : {b s i j : ℕ} {t : Tree} (n : ℕ) (v : Variable) → 0 < b → slice_get g.variables.items n ≡ Some v → IsToken ts i v.word → j ≡ i + 1
        → s ≡ v.sort → t ≡ Var v.number v.sort → Reads g ts b s i j t
    by_operator : {b s i j : ℕ} {t : Tree} (n : ℕ) (r : Rule) (args : Trees) → slice_get g.rules.items n ≡ Some r → r.prec < b → s ≡ r.sort
        → Row g ts r.symbols.items i j args → t ≡ App r.op r.sort args → Reads g ts b s i j t

  -- the tokens from i up to j are the symbols in order, with the arguments in the holes
  pub data Row (g : Grammar) (ts : List ℕ) : List Symbol → ℕ → ℕ → Trees → Type 0 where
    row_end : {i j : ℕ} → i ≡ j → Row g ts [] i j none
    row_word : {w : ℕ} {ps : List Symbol} {i j : ℕ} {args : Trees} → IsToken ts i w → Row g ts ps (i + 1) j args → Row g ts (Word w ∷ ps) i j args
    row_hole : {s b : ℕ} {ps : List Symbol} {i j : ℕ} {t : Tree} {args : Trees} (m : ℕ) → Reads g ts b s i m t → Row g ts ps m j args
        → Row g ts (Hole s b ∷ ps) i j (more t args)

-- symbols can begin at m: where their first is a word, it stands there
abbrev pub CanBegin : List ℕ → List Symbol → ℕ → Type 0
CanBegin ts [] m = Unit {0}
CanBegin ts (Word w ∷ ps) m = IsToken ts m w
CanBegin ts (Hole s b ∷ ps) m = Unit {0}
