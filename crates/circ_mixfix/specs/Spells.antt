-- What a list of tokens spells.
use Rattle.std.specs.Prelude.{◌≡◌, ◌≢◌, ℕ, ◌<◌, List, [], ◌∷◌, ◌++◌, Bool, true, false, codes, ◌==◌, Some}
use Rattle.std.specs.List.{slice_get, list_any, Contains}
use Rattle.circ_theory.specs.Signature.{Signature, Operator}
use Rattle.circ_theory.specs.Theory.{Declared, declared}
use Rattle.circ_mixfix.specs.Named.{Named, NamedList, Variable, Applied, no_terms, terms}
use Rattle.circ_mixfix.specs.Symbols.{Symbol, Word, Hole, every, symbols_of, precedence_of}

-- no byte is ':'
abbrev pub HasNoColon : List ℕ → Type 0
HasNoColon w = list_any (λ b. b == 58) w ≡ false

-- The token w is a variable of this name and this sort: a declared one, NAME:SORT, or, in a derivative, the hole *:SORT.
pub data IsVariable (sig : Signature) (vars : List Declared) (hole : Bool) : List ℕ → List ℕ → ℕ → Type 0 where
  a_declared_one : {w : List ℕ} {s : ℕ} → Contains vars (declared w s) → HasNoColon w → w ≢ codes "(" → w ≢ codes ")" → IsVariable sig vars hole w w s
  a_written_one : {w name : List ℕ} {s : ℕ} (sort : List ℕ) → slice_get sig.sorts s ≡ Some sort → w ≡ name ++ 58 ∷ sort → HasNoColon name → HasNoColon sort
      → name ≢ [] → sort ≢ [] → name ≢ codes "*" → IsVariable sig vars hole w name s
  the_hole : {w : List ℕ} {s : ℕ} (sort : List ℕ) → hole ≡ true → slice_get sig.sorts s ≡ Some sort → w ≡ codes "*" ++ 58 ∷ sort → HasNoColon sort → sort ≢ []
      → IsVariable sig vars hole w [] s

mutual
  -- the tokens spell a term of the sort s, of a precedence below b
  pub data Spells (sig : Signature) (vars : List Declared) (hole : Bool) : ℕ → ℕ → List (List ℕ) → Named → Type 0 where
    in_parentheses : {b s : ℕ} {q : Named} {all : List (List ℕ)} (inner : List (List ℕ)) → 0 < b → Spells sig vars hole every s inner q
        → all ≡ codes "(" ∷ (inner ++ codes ")" ∷ [])
        → Spells sig vars hole b s all q
    a_variable : {b s : ℕ} {q : Named} {all : List (List ℕ)} (w name : List ℕ) → 0 < b → IsVariable sig vars hole w name s → all ≡ w ∷ []
        → q ≡ Variable name s → Spells sig vars hole b s all q
    an_operator : {b s : ℕ} {q : Named} {all : List (List ℕ)} (f : ℕ) (o : Operator) (args : NamedList) → slice_get sig.ops f ≡ Some o → precedence_of o < b
        → s ≡ o.result
        → SpellsSymbols sig vars hole (symbols_of o) all args → q ≡ Applied f o.result args → Spells sig vars hole b s all q

  -- the tokens are the symbols in order, with the arguments in the holes
  pub data SpellsSymbols (sig : Signature) (vars : List Declared) (hole : Bool) : List Symbol → List (List ℕ) → NamedList → Type 0 where
    no_symbol : {all : List (List ℕ)} → all ≡ [] → SpellsSymbols sig vars hole [] all no_terms
    a_word : {w : List ℕ} {ps : List Symbol} {all : List (List ℕ)} {args : NamedList} (rest : List (List ℕ)) → SpellsSymbols sig vars hole ps rest args
        → all ≡ w ∷ rest
        → SpellsSymbols sig vars hole (Word w ∷ ps) all args
    a_hole : {s b : ℕ} {ps : List Symbol} {all : List (List ℕ)} {q : Named} {args : NamedList} (first rest : List (List ℕ)) → Spells sig vars hole b s first q
        → SpellsSymbols sig vars hole ps rest args
        → all ≡ first ++ rest → SpellsSymbols sig vars hole (Hole s b ∷ ps) all (terms q args)
