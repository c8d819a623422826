-- What the words of a statement say.
use Rattle.std.specs.Prelude.{◌≡◌, ◌≢◌, List, [], ◌∷◌, ◌++◌, Bool, true, false, codes, Option, Some, None, Result, Ok, Err, if◌then◌else◌}
use Rattle.circ_lexer.specs.TokenList.{TokenList, tokens_in}
use Rattle.circ_lexer.specs.declared.tokens.Span.{Span}
use Rattle.circ_statement.specs.declared.keywords.Keyword.{Keyword}
use Rattle.circ_statement.specs.declared.keywords.Keyword.TheVariants.{Inclusion, Sorts, Operator, Operators, Variables, Equation, Conditional, Derivative, Cases, LeftOut}
use Rattle.circ_statement.specs.declared.attributes.Attributes.{Attributes}
use Rattle.circ_statement.specs.declared.statements.Statement.{Statement}
use Rattle.circ_statement.specs.declared.fault.StatementFault.{StatementFault}
use Rattle.circ_statement.specs.declared.fault.StatementFault.TheVariants.{LeftOut as OutBy, Shape, Memory}
use Rattle.circ_statement.specs.Words.{Word, has_word, is_name, are_names, are_some_names, keyword_of}
use Rattle.circ_statement.specs.Outside.{parts_at}
use Rattle.circ_statement.specs.Heads.{IsHead, HasForeign}
use Rattle.circ_statement.specs.Attributes.{HasAttributes, Spelled, AreSpelled}
use Rattle.circ_statement.specs.Said.{Said, SaidSides, inclusion, sorts, operators, variables, equation, derivative, cases, said_of, LiesWithin, LiesIn, IsPlace, token_at}

-- What the words after a statement's first word say, kind by kind.

pub record IsInclusion (ws : List Word) (said : Said) : Type 0 where
  pub name : Word
  pub words : ws ≡ name ∷ []
  pub is_name : is_name name ≡ true
  pub says : said ≡ inclusion name

pub record IsSorts (ws : List Word) (said : Said) : Type 0 where
  pub are_names : are_some_names ws ≡ true
  pub says : said ≡ sorts ws

-- words joined without blanks
abbrev pub joined : List Word → Word
joined [] = []
joined (w ∷ ws) = w ++ joined ws

-- the forms before the colon: one of all words joined, or each word
abbrev pub forms_of : (is_one : Bool) → List Word → List Word
forms_of is_one front = if is_one then joined front ∷ [] else front

-- what the parts of an operator's statement say
pub record Declares (is_one : Bool) (front args : List Word) (result : Word) (marks : List Word) (said : Said) : Type 0 where
  pub given : Attributes
  pub forms : List Spelled
  pub some : front ≢ []
  pub are_names : are_names args ≡ true
  pub is_name : is_name result ≡ true
  pub attributes : HasAttributes marks given
  pub spelled : AreSpelled given (forms_of is_one front) forms
  pub says : said ≡ operators forms args result given.assoc given.comm given.idem

pub record IsOperators (is_one : Bool) (ws : List Word) (said : Said) : Type 0 where
  pub front : List Word
  pub args : List Word
  pub result : Word
  pub marks : List Word
  pub head : IsHead ws front args result marks
  pub declares : Declares is_one front args result marks said

pub record IsVariables (ws : List Word) (said : Said) : Type 0 where
  pub names : List Word
  pub sort : Word
  pub words : ws ≡ names ++ codes ":" ∷ (sort ∷ [])
  pub are_names : are_some_names names ≡ true
  pub is_name : is_name sort ≡ true
  pub says : said ≡ variables names sort

-- the mark of an equation that is no rewrite rule
abbrev pub nonexec : List Word
nonexec = codes "[" ∷ (codes "nonexec" ∷ (codes "]" ∷ []))

-- the words without the mark at their end; where they have it not, the equation may be a rewrite rule
abbrev pub IsUnmarked : (ws rest : List Word) (exec : Bool) → Type 0
IsUnmarked ws rest true = (ws ≡ rest) × ((front : List Word) → ws ≡ front ++ nonexec → ⊥)
IsUnmarked ws rest false = ws ≡ rest ++ nonexec

-- one equals sign, between any words
pub record AreSides (ws : List Word) (s : SaidSides) : Type 0 where
  pub words : ws ≡ s.left ++ codes "=" ∷ s.right
  pub one_left : has_word (codes "=") s.left ≡ false
  pub one_right : has_word (codes "=") s.right ≡ false

-- each list of words has one equals sign
abbrev pub AreEachSides : List (List Word) → List SaidSides → Type 0
AreEachSides [] [] = Unit {0}
AreEachSides [] (s ∷ ss) = ⊥
AreEachSides (ws ∷ wss) [] = ⊥
AreEachSides (ws ∷ wss) (s ∷ ss) = AreSides ws s × AreEachSides wss ss

pub record IsEquation (ws : List Word) (said : Said) : Type 0 where
  pub body : List Word
  pub sides : SaidSides
  pub exec : Bool
  pub unmarked : IsUnmarked ws body exec
  pub are_sides : AreSides body sides
  pub says : said ≡ equation sides.left sides.right [] exec

-- one `if` outside parentheses, with sides before it, and conditions behind it that are cut at each /\ outside parentheses
pub record AreUnderConditions (ws : List Word) (sides : SaidSides) (conds : List SaidSides) : Type 0 where
  pub front : List Word
  pub rest : List Word
  pub parts : List (List Word)
  pub one_if : parts_at (codes "if") ws ≡ Some (front ∷ (rest ∷ []))
  pub cut : parts_at (codes "/\\") rest ≡ Some parts
  pub are_sides : AreSides front sides
  pub each : AreEachSides parts conds

pub record IsConditional (ws : List Word) (said : Said) : Type 0 where
  pub body : List Word
  pub sides : SaidSides
  pub conds : List SaidSides
  pub exec : Bool
  pub unmarked : IsUnmarked ws body exec
  pub are : AreUnderConditions body sides conds
  pub says : said ≡ equation sides.left sides.right conds exec

pub record IsCases (ws : List Word) (said : Said) : Type 0 where
  pub sort : Word
  pub names : List Word
  pub words : ws ≡ sort ∷ (codes "by" ∷ names)
  pub is_name : is_name sort ≡ true
  pub are_names : are_names names ≡ true
  pub says : said ≡ cases sort names

abbrev pub IsOfKind : Option Keyword → List Word → Said → Type 0
IsOfKind None ws said = ⊥
IsOfKind (Some LeftOut) ws said = ⊥
IsOfKind (Some Inclusion) ws said = IsInclusion ws said
IsOfKind (Some Sorts) ws said = IsSorts ws said
IsOfKind (Some Operator) ws said = IsOperators true ws said
IsOfKind (Some Operators) ws said = IsOperators false ws said
IsOfKind (Some Variables) ws said = IsVariables ws said
IsOfKind (Some Equation) ws said = IsEquation ws said
IsOfKind (Some Conditional) ws said = IsConditional ws said
IsOfKind (Some Derivative) ws said = said ≡ derivative ws
IsOfKind (Some Cases) ws said = IsCases ws said

-- The words of a statement, without the stop that ends it, say this.
abbrev pub IsStatement : List Word → Said → Type 0
IsStatement [] said = ⊥
IsStatement (w ∷ ws) said = IsOfKind (keyword_of w) ws said

abbrev pub IsOutByKind : Option Keyword → Word → List Word → Word → Type 0
IsOutByKind None first ws w = ⊥
IsOutByKind (Some LeftOut) first ws w = first ≡ w
IsOutByKind (Some Inclusion) first ws w = ⊥
IsOutByKind (Some Sorts) first ws w = ⊥
IsOutByKind (Some Operator) first ws w = HasForeign ws w
IsOutByKind (Some Operators) first ws w = HasForeign ws w
IsOutByKind (Some Variables) first ws w = ⊥
IsOutByKind (Some Equation) first ws w = ⊥
IsOutByKind (Some Conditional) first ws w = ⊥
IsOutByKind (Some Derivative) first ws w = ⊥
IsOutByKind (Some Cases) first ws w = ⊥

-- The statement is left out, by this word.
abbrev pub IsLeftOut : List Word → Word → Type 0
IsLeftOut [] w = ⊥
IsLeftOut (first ∷ ws) w = IsOutByKind (keyword_of first) first ws w

-- what the tokens say; or the word by which they are left out, which stands in the span; or neither
abbrev pub SaysOrLeavesOut : Result Statement StatementFault → TokenList → Span → (Said → Type 0) → (Word → Type 0) → Type 0
SaysOrLeavesOut (Ok s) ts span Says IsOut = Says (said_of ts s) × LiesWithin ts s × ((w : Word) → IsOut w → ⊥)
SaysOrLeavesOut (Err (OutBy n)) ts span Says IsOut = IsPlace ts n × IsOut (token_at ts n) × LiesIn span n
SaysOrLeavesOut (Err Shape) ts span Says IsOut = ((said : Said) → Says said → ⊥) × ((w : Word) → IsOut w → ⊥)
SaysOrLeavesOut (Err Memory) ts span Says IsOut = Unit {0}

-- what reading the tokens of a span as a statement answers
abbrev pub GivesStatement : Result Statement StatementFault → TokenList → Span → Type 0
GivesStatement r ts span = SaysOrLeavesOut r ts span (IsStatement (tokens_in ts span)) (IsLeftOut (tokens_in ts span))
