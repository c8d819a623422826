-- What a list of tokens spells.
use Rattle.std.specs.Prelude.{◌≡◌, ◌<◌, ◌++◌, ℕ, List, [], ◌∷◌, Some}
use Rattle.std.specs.List.{slice_get}
use Rattle.circ_term.specs.Tree.{Tree, Trees, Var, App, none, more}
use Rattle.circ_spelling.specs.declared.grammar.Symbol.{Symbol}
use Rattle.circ_spelling.specs.declared.grammar.Symbol.TheVariants.{Word, Hole}
use Rattle.circ_spelling.specs.declared.grammar.Rule.{Rule}
use Rattle.circ_spelling.specs.declared.grammar.Variable.{Variable}
use Rattle.circ_spelling.specs.declared.grammar.Grammar.{Grammar}
use Rattle.circ_spelling.specs.Limits.{opening, closing, every}

mutual
  -- the tokens spell a term of the sort s, of a precedence below b
  pub data Generates (g : Grammar) : ℕ → ℕ → List ℕ → Tree → Type 0 where
    in_parentheses : {b s : ℕ} {t : Tree} {all : List ℕ} (inner : List ℕ) → 0 < b → Generates g every s inner t → all ≡ opening ∷ (inner ++ closing ∷ [])
        → Generates g b s all t
    a_variable : {b s : ℕ} {t : Tree} {all : List ℕ} (n : ℕ) (v : Variable) → 0 < b → slice_get g.variables.items n ≡ Some v → all ≡ v.word ∷ [] → s ≡ v.sort
        → t ≡ Var v.number v.sort → Generates g b s all t
    an_operator : {b s : ℕ} {t : Tree} {all : List ℕ} (n : ℕ) (r : Rule) (args : Trees) → slice_get g.rules.items n ≡ Some r → r.prec < b → s ≡ r.sort
        → GeneratesRow g r.symbols.items all args → t ≡ App r.op r.sort args → Generates g b s all t

  -- the tokens are the symbols in order, with the arguments in the holes
  pub data GeneratesRow (g : Grammar) : List Symbol → List ℕ → Trees → Type 0 where
    no_symbol : {all : List ℕ} → all ≡ [] → GeneratesRow g [] all none
    a_word : {w : ℕ} {ps : List Symbol} {all : List ℕ} {args : Trees} (rest : List ℕ) → GeneratesRow g ps rest args → all ≡ w ∷ rest
        → GeneratesRow g (Word w ∷ ps) all args
    a_hole : {s b : ℕ} {ps : List Symbol} {all : List ℕ} {t : Tree} {args : Trees} (first rest : List ℕ) → Generates g b s first t
        → GeneratesRow g ps rest args → all ≡ first ++ rest → GeneratesRow g (Hole s b ∷ ps) all (more t args)
