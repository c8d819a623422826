-- The part of a grammar by which lists of some tokens are spelled.
use Rattle.std.specs.Prelude.{◌≡◌, ◌≤◌, ◌<◌, ◌⊎◌, ◌++◌, ℕ, Bool, true, List, [], ◌∷◌, Some, length, get_or}
use Rattle.std.specs.List.{slice_get}
use Rattle.circ_term.specs.Tree.{Tree}
use Rattle.circ_spelling.specs.declared.grammar.Symbol.{Symbol}
use Rattle.circ_spelling.specs.declared.grammar.Symbol.TheVariants.{Word, Hole}
use Rattle.circ_spelling.specs.declared.grammar.Rule.{Rule}
use Rattle.circ_spelling.specs.declared.grammar.Variable.{Variable}
use Rattle.circ_spelling.specs.declared.grammar.Grammar.{Grammar}
use Rattle.circ_spelling.specs.Generates.{Generates}
use Rattle.circ_spelling.specs.Words.{HaveWords}

abbrev pub IsAmong : List ℕ → ℕ → Type 0
IsAmong [] w = ⊥
IsAmong (t ∷ ts) w = (t ≡ w) ⊎ IsAmong ts w

-- each token of the second list is one of the first
abbrev pub AreAmong : List ℕ → List ℕ → Type 0
AreAmong us [] = Unit {0}
AreAmong us (t ∷ ts) = IsAmong us t × AreAmong us ts

-- each word is a token
abbrev pub HasTokens : List ℕ → List Symbol → Type 0
HasTokens us [] = Unit {0}
HasTokens us (Word w ∷ ps) = IsAmong us w × HasTokens us ps
HasTokens us (Hole s b ∷ ps) = HasTokens us ps

-- whether the sort is marked; one beyond the list counts as marked
abbrev pub IsMarked : List Bool → ℕ → Type 0
IsMarked marks s = get_or marks s true ≡ true

-- the sort of each hole is marked
abbrev pub AreMarked : List Bool → List Symbol → Type 0
AreMarked marks [] = Unit {0}
AreMarked marks (Word w ∷ ps) = AreMarked marks ps
AreMarked marks (Hole s b ∷ ps) = IsMarked marks s × AreMarked marks ps

-- what is marked stays so
abbrev pub StayMarked : List Bool → List Bool → Type 0
StayMarked old new = (s : ℕ) → IsMarked old s → IsMarked new s

-- the sorts of the first m variables are marked
abbrev pub VariablesMarked : List Variable → ℕ → List Bool → Type 0
VariablesMarked vs m marks = (n : ℕ) (v : Variable) → n < m → slice_get vs n ≡ Some v → IsMarked marks v.sort

-- of the first m rules, those whose holes were marked have marked sorts
abbrev pub RulesMarked : List Rule → ℕ → List Bool → List Bool → Type 0
RulesMarked rs m old new = (n : ℕ) (r : Rule) → n < m → slice_get rs n ≡ Some r → AreMarked old r.symbols.items → IsMarked new r.sort

-- each sort is marked of which some list of at most n tokens spells a term
abbrev pub Covers : Grammar → ℕ → List Bool → Type 0
Covers g n marks = (b s : ℕ) (ts : List ℕ) (t : Tree) → length ts ≤ n → Generates g b s ts t → IsMarked marks s

pub record IsSame (q r : Rule) : Type 0 where
  pub op : r.op ≡ q.op
  pub sort : r.sort ≡ q.sort
  pub prec : r.prec ≡ q.prec
  pub symbols : r.symbols.items ≡ q.symbols.items

-- the list with the rule more, if it is in P
abbrev pub AddsRule : (Rule → Type 0) → Rule → (old new : List Rule) → Type 0
AddsRule P q old new = ((new ≡ old) × (P q → ⊥)) ⊎ ((r : Rule) × IsSame q r × (new ≡ old ++ r ∷ []))

-- the rules `some` are among `rs`, and all those of the first m are there that are in P
pub record KeepsRules (P : Rule → Type 0) (rs : List Rule) (m : ℕ) (some : List Rule) : Type 0 where
  pub taken : (n : ℕ) (r : Rule) → slice_get some n ≡ Some r → (k : ℕ) × (q : Rule) × (slice_get rs k ≡ Some q) × IsSame q r
  pub all : (k : ℕ) (q : Rule) → k < m → slice_get rs k ≡ Some q → P q → (n : ℕ) × (r : Rule) × (slice_get some n ≡ Some r) × IsSame q r

-- the grammars spell alike, as far as the lists in L go
pub record GenerateAlike (L : List ℕ → Type 0) (g h : Grammar) : Type 0 where
  pub there : (b s : ℕ) (ts : List ℕ) (t : Tree) → L ts → Generates g b s ts t → Generates h b s ts t
  pub back : (b s : ℕ) (ts : List ℕ) (t : Tree) → Generates h b s ts t → Generates g b s ts t
  pub words : HaveWords h
