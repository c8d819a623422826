-- A grammar of the chart that spells what a signature and variables spell: texts go by their numbers in a list of different texts.
use Rattle.std.specs.Prelude.{◌≡◌, ◌≤◌, ◌<◌, ◌⊎◌, ◌++◌, ℕ, List, [], ◌∷◌, map, length, Bool, Option, Some, None, codes, unwrap_or}
use Rattle.std.specs.List.{slice_get}
use Rattle.circ_term.specs.Tree.{Tree, Trees, Var, App, none, more}
use Rattle.circ_spelling.specs.declared.grammar.Grammar.{Grammar}
use Rattle.circ_spelling.specs.declared.grammar.Rule.{Rule}
use Rattle.circ_spelling.specs.declared.grammar.Variable as chart_variable
use Rattle.circ_spelling.specs.declared.grammar.Symbol as chart_symbol
use Rattle.circ_spelling.specs.declared.grammar.Symbol.TheVariants as chart
use Rattle.circ_theory.specs.Signature.{Signature, Operator}
use Rattle.circ_theory.specs.Theory.{Declared}
use Rattle.circ_mixfix.specs.Named.{Named, NamedList, Variable, Applied, no_terms, terms}
use Rattle.circ_mixfix.specs.Symbols.{Symbol, Word, Hole, every, symbols_of, precedence_of}
use Rattle.circ_mixfix.specs.Spells.{IsVariable}
use Rattle.circ_theory.specs.Names.{AreDifferent}
use Rattle.circ_mixfix.specs.Least.{least_of, least_for}
use Rattle.circ_mixfix.specs.WordLists.{BeginAlike}
use Rattle.circ_mixfix.specs.declared.numbered.Numbered.{Numbered}

abbrev pub text_at : List (List ℕ) → ℕ → List ℕ
text_at ws n = unwrap_or (slice_get ws n) []

-- the texts of numbers
abbrev pub texts_at : List (List ℕ) → List ℕ → List (List ℕ)
texts_at ws ns = map (text_at ws) ns

abbrev pub AllBelow : ℕ → List ℕ → Type 0
AllBelow k [] = Unit {0}
AllBelow k (n ∷ ns) = (n < k) × AllBelow k ns

-- the numbers of these texts
pub record AreNumbers (ws : List (List ℕ)) (ns : List ℕ) (us : List (List ℕ)) : Type 0 where
  pub texts : texts_at ws ns ≡ us
  pub below : AllBelow (length ws) ns

-- the term whose variables have the texts of their numbers as names
abbrev mutual
  pub named_by : List (List ℕ) → Tree → Named
  named_by ws (Var n s) = Variable (text_at ws n) s
  named_by ws (App f s ts) = Applied f s (all_named_by ws ts)

  pub all_named_by : List (List ℕ) → Trees → NamedList
  all_named_by ws none = no_terms
  all_named_by ws (more t ts) = terms (named_by ws t) (all_named_by ws ts)

-- the chart's symbol is this one: a word by its number, or the same hole
abbrev pub IsSymbol : List (List ℕ) → Symbol → chart_symbol.Symbol → Type 0
IsSymbol ws (Word w) (chart.Word n) = slice_get ws n ≡ Some w
IsSymbol ws (Word w) (chart.Hole s b) = ⊥
IsSymbol ws (Hole s b) (chart.Word n) = ⊥
IsSymbol ws (Hole s b) (chart.Hole t c) = (s ≡ t) × (b ≡ c) × (b ≤ every)

-- the same for lists, one by one
abbrev pub AreSymbols : List (List ℕ) → List Symbol → List chart_symbol.Symbol → Type 0
AreSymbols ws [] [] = Unit {0}
AreSymbols ws [] (c ∷ cs) = ⊥
AreSymbols ws (p ∷ ps) [] = ⊥
AreSymbols ws (p ∷ ps) (c ∷ cs) = IsSymbol ws p c × AreSymbols ws ps cs

-- a word has a number
abbrev pub HasNumber : List (List ℕ) → Symbol → Type 0
HasNumber ws (Word w) = (n : ℕ) × (slice_get ws n ≡ Some w)
HasNumber ws (Hole s b) = Unit {0}

abbrev pub HaveNumbers : List (List ℕ) → List Symbol → Type 0
HaveNumbers ws [] = Unit {0}
HaveNumbers ws (p ∷ ps) = HasNumber ws p × HaveNumbers ws ps

-- the chart's symbol, or none where the word has no number
abbrev pub GivesSymbol : List (List ℕ) → Symbol → Option chart_symbol.Symbol → Type 0
GivesSymbol ws p (Some c) = IsSymbol ws p c
GivesSymbol ws p None = HasNumber ws p → ⊥

abbrev pub GivesSymbols : List (List ℕ) → List Symbol → Option (List chart_symbol.Symbol) → Type 0
GivesSymbols ws ps (Some cs) = AreSymbols ws ps cs
GivesSymbols ws ps None = HaveNumbers ws ps → ⊥

-- no hole takes more than every precedence
abbrev pub IsBelow : Symbol → Type 0
IsBelow (Word w) = Unit {0}
IsBelow (Hole s b) = b ≤ every

abbrev pub AreBelow : List Symbol → Type 0
AreBelow [] = Unit {0}
AreBelow (p ∷ ps) = IsBelow p × AreBelow ps

pub record IsRuleOf (ws : List (List ℕ)) (f : ℕ) (o : Operator) (r : Rule) : Type 0 where
  pub op : r.op ≡ f
  pub sort : r.sort ≡ o.result
  pub prec : r.prec ≡ precedence_of o
  pub symbols : AreSymbols ws (symbols_of o) r.symbols.items

-- the rule of an operator, or none where nothing below every precedence is spelled by it, or one of its words has no number
abbrev pub GivesRule : List (List ℕ) → ℕ → Operator → Option Rule → Type 0
GivesRule ws f o (Some r) = IsRuleOf ws f o r
GivesRule ws f o None = precedence_of o < every → HaveNumbers ws (symbols_of o) → ⊥

-- the rules are those of operators, and all those in C whose symbols may be `most` tokens and whose words have numbers have one
pub record HasRules (sig : Signature) (ws : List (List ℕ)) (most : ℕ) (least : List ℕ) (C : ℕ → Type 0) (rs : List Rule) : Type 0 where
  pub rules : (n : ℕ) (r : Rule) → slice_get rs n ≡ Some r → (f : ℕ) × (o : Operator) × (slice_get sig.ops f ≡ Some o) × IsRuleOf ws f o r
  pub all_rules : (f : ℕ) (o : Operator) → C f → slice_get sig.ops f ≡ Some o → precedence_of o < every → HaveNumbers ws (symbols_of o)
      → least_for least (symbols_of o) ≤ most
      → (n : ℕ) × (r : Rule) × (slice_get rs n ≡ Some r) × IsRuleOf ws f o r

-- the list with the rule of one operator more, where its symbols may be `most` tokens and its words have numbers
abbrev pub AddsRule : Signature → List (List ℕ) → (most : ℕ) → (least : List ℕ) → ℕ → (old new : List Rule) → Type 0
AddsRule sig ws most least f old new =
    ((new ≡ old)
    × ((o : Operator) → slice_get sig.ops f ≡ Some o → precedence_of o < every → HaveNumbers ws (symbols_of o) → least_for least (symbols_of o) ≤ most → ⊥))
    ⊎ ((o : Operator) × (r : Rule) × (slice_get sig.ops f ≡ Some o) × IsRuleOf ws f o r × (new ≡ old ++ r ∷ []))

-- of several operators, one after another
abbrev pub AddsRules : Signature → List (List ℕ) → (most : ℕ) → (least : List ℕ) → List ℕ → (old new : List Rule) → Type 0
AddsRules sig ws most least [] old new = new ≡ old
AddsRules sig ws most least (f ∷ fs) old new = (between : List Rule) × AddsRule sig ws most least f old between × AddsRules sig ws most least fs between new

pub record IsVariableOf (ws : List (List ℕ)) (name : List ℕ) (k s : ℕ) (v : chart_variable.Variable) : Type 0 where
  pub word : v.word ≡ k
  pub number : slice_get ws v.number ≡ Some name
  pub sort : v.sort ≡ s

-- The texts are different, the parentheses first. The grammar has a variable for each way in which one of the first k texts is one. It has rules of operators
-- alone, and one for each whose words have numbers and whose symbols may be `most` tokens. The numbers of sorts hold for the grammar.
pub record IsGrammarOf (sig : Signature) (vars : List Declared) (hole : Bool) (ws : List (List ℕ)) (k most : ℕ) (g : Grammar) : Type 0 where
  pub different : AreDifferent ws
  pub count : k ≤ length ws
  pub opening : slice_get ws 0 ≡ Some (codes "(")
  pub closing : slice_get ws 1 ≡ Some (codes ")")
  pub rules : (n : ℕ) (r : Rule) → slice_get g.rules.items n ≡ Some r → (f : ℕ) × (o : Operator) × (slice_get sig.ops f ≡ Some o) × IsRuleOf ws f o r
  pub least : List ℕ
  pub all_rules : (f : ℕ) (o : Operator) → slice_get sig.ops f ≡ Some o → precedence_of o < every → HaveNumbers ws (symbols_of o)
      → least_for least (symbols_of o) ≤ most
      → (n : ℕ) × (r : Rule) × (slice_get g.rules.items n ≡ Some r) × IsRuleOf ws f o r
  pub least_operators : (f : ℕ) (o : Operator) → slice_get sig.ops f ≡ Some o → HaveNumbers ws (symbols_of o) → least_for least (symbols_of o) ≤ most
      → least_of least o.result ≤ least_for least (symbols_of o)
  pub least_variables : (n : ℕ) (v : chart_variable.Variable) → slice_get g.variables.items n ≡ Some v → least_of least v.sort ≤ 1
  pub variables : (n : ℕ) (v : chart_variable.Variable) → slice_get g.variables.items n ≡ Some v
      → (w name : List ℕ) × (slice_get ws v.word ≡ Some w) × (slice_get ws v.number ≡ Some name) × IsVariable sig vars hole w name v.sort
  pub all_variables : (i : ℕ) (w name : List ℕ) (s : ℕ) → i < k → slice_get ws i ≡ Some w → IsVariable sig vars hole w name s
      → (n : ℕ) × (v : chart_variable.Variable) × (slice_get g.variables.items n ≡ Some v) × IsVariableOf ws name i s v

-- The texts of two token lists have numbers in the list, and the grammar is that of the signature and the variables over these numbers, for so many tokens.
pub record AreNumbered (sig : Signature) (vars : List Declared) (hole : Bool) (first second texts : List (List ℕ)) (both : Numbered) : Type 0 where
  pub count : ℕ
  pub most : ℕ
  pub begin : BeginAlike texts
  pub grammar : IsGrammarOf sig vars hole texts count most both.grammar
  pub left : texts_at texts both.left.items ≡ first
  pub left_below : AllBelow count both.left.items
  pub left_few : length both.left.items ≤ most
  pub right : texts_at texts both.right.items ≡ second
  pub right_below : AllBelow count both.right.items
  pub right_few : length both.right.items ≤ most
