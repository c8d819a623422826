-- What the steps of reading a statement answer.
use Rattle.std.specs.Prelude.{◌≡◌, ◌≢◌, ◌≤◌, ◌+◌, ◌-◌, ◌*◌, ◌<◌, ◌==◌, ℕ, codes, if◌then◌else◌, List, [], ◌∷◌, ◌++◌, Bool, true, false, map, Option, Some, None, Result, Ok, Err}
use Rattle.std.specs.Global.{Vec}
use Rattle.std.specs.List.{AllByRecursion}
use Rattle.std.specs.Char.{is_ascii_digit}
use Rattle.std.specs.Option.{option_map, option_and_then}
use Rattle.circ_lexer.specs.TokenList.{TokenList, tokens_in, IsWithin}
use Rattle.circ_lexer.specs.declared.tokens.Span.{Span}
use Rattle.circ_form.specs.declared.forms.Piece.{Piece}
use Rattle.circ_form.specs.Form.{pieces_of, form_fault}
use Rattle.circ_statement.specs.declared.attributes.Attribute.{Attribute}
use Rattle.circ_statement.specs.declared.attributes.Attribute.TheVariants.{Prec, ToLeft, ToRight, Assoc, Comm, Idem}
use Rattle.circ_statement.specs.declared.attributes.Attributes.{Attributes}
use Rattle.circ_statement.specs.declared.places.First.{First}
use Rattle.circ_statement.specs.declared.outside.Cut.{Cut}
use Rattle.circ_statement.specs.declared.outside.Cut.TheVariants.{At, Nowhere, Unopened}
use Rattle.circ_statement.specs.declared.statements.Sides.{Sides}
use Rattle.circ_statement.specs.declared.statements.Conditional.{Conditional}
use Rattle.circ_statement.specs.declared.heads.Head.{Head}
use Rattle.circ_statement.specs.declared.statements.Spelling.{Spelling}
use Rattle.circ_statement.specs.declared.statements.Statement.{Statement}
use Rattle.circ_statement.specs.declared.fault.StatementFault.{StatementFault}
use Rattle.circ_statement.specs.declared.fault.StatementFault.TheVariants.{LeftOut, Shape, Memory}
use Rattle.circ_statement.specs.Words.{Word, is_word, has_word, is_name, are_names}
use Rattle.circ_statement.specs.Heads.{IsHead, IsBracket, IsFirstForeign, HasForeign}
use Rattle.circ_statement.specs.Attributes.{Spelled, AddsAttributes, HasAttributes, IsSpelled, AreSpelled}
use Rattle.circ_statement.specs.Outside.{parts_at}
use Rattle.circ_statement.specs.Said.{Said, SaidSides, sides_of, said_of, spelled_of, LiesWithin, LiesIn, IsPlace, token_at}
use Rattle.circ_statement.specs.Statement.{IsUnmarked, IsOperators, AreSides, AreEachSides, AreUnderConditions, SaysOrLeavesOut}

-- one span lies in another
pub record IsPart (span part : Span) : Type 0 where
  pub from : span.from ≤ part.from
  pub to : part.to ≤ span.to

-- the first token, and those after it
pub record IsFirstToken (ts : TokenList) (span : Span) (f : First) : Type 0 where
  pub some : span.from < span.to
  pub place : f.place ≡ span.from
  pub from : f.rest.from ≡ span.from + 1
  pub to : f.rest.to ≡ span.to
  pub within : IsWithin ts f.rest
  pub is_place : IsPlace ts f.place
  pub token : token_at ts f.place ≡ f.word.now
  pub words : tokens_in ts span ≡ f.word.now ∷ tokens_in ts f.rest

abbrev pub GivesFirst : Option First → TokenList → Span → Type 0
GivesFirst None ts span = tokens_in ts span ≡ []
GivesFirst (Some f) ts span = IsFirstToken ts span f

-- the tokens after this first word
abbrev pub GivesAfter : Option Span → TokenList → Span → Word → Type 0
GivesAfter None ts span w = (rest : List Word) → tokens_in ts span ≡ w ∷ rest → ⊥
GivesAfter (Some after) ts span w = IsWithin ts after × (tokens_in ts span ≡ w ∷ tokens_in ts after) × IsPart span after

-- the only token, where it is a name
abbrev pub GivesName : Option ℕ → TokenList → Span → Type 0
GivesName None ts span = (w : Word) → tokens_in ts span ≡ w ∷ [] → is_name w ≡ true → ⊥
GivesName (Some n) ts span = IsPlace ts n × (tokens_in ts span ≡ token_at ts n ∷ []) × (is_name (token_at ts n) ≡ true)

-- the tokens before the first such word, and those after it
abbrev pub GivesSplit : Option (Span × Span) → TokenList → Span → Word → Type 0
GivesSplit None ts span w = has_word w (tokens_in ts span) ≡ false
GivesSplit (Some r) ts span w =
    IsWithin ts r.0 × IsWithin ts r.1 × (tokens_in ts span ≡ tokens_in ts r.0 ++ w ∷ tokens_in ts r.1) × (has_word w (tokens_in ts r.0) ≡ false)
    × IsPart span r.0 × IsPart span r.1

abbrev pub GivesHead : Option Head → TokenList → Span → Type 0
GivesHead None ts span = (front args : List Word) (result : Word) (marks : List Word) → IsHead (tokens_in ts span) front args result marks → ⊥
GivesHead (Some h) ts span =
    IsWithin ts h.front × IsWithin ts h.args × IsPlace ts h.result × IsWithin ts h.marks
    × IsHead (tokens_in ts span) (tokens_in ts h.front) (tokens_in ts h.args) (token_at ts h.result) (tokens_in ts h.marks)
    × IsPart span h.marks

abbrev pub GivesBracket : Option (Span × Span) → TokenList → Span → Type 0
GivesBracket None ts span = (inside rest : List Word) → IsBracket (tokens_in ts span) inside rest → ⊥
GivesBracket (Some r) ts span = IsWithin ts r.0 × IsWithin ts r.1 × IsBracket (tokens_in ts span) (tokens_in ts r.0) (tokens_in ts r.1) × IsPart span r.0

-- the first token that may not stand among attributes
abbrev pub GivesForeign : Option ℕ → TokenList → Span → Type 0
GivesForeign None ts inside = (w : Word) → IsFirstForeign (tokens_in ts inside) w → ⊥
GivesForeign (Some n) ts inside = IsPlace ts n × IsFirstForeign (tokens_in ts inside) (token_at ts n) × LiesIn inside n

-- the same for the brackets after a result sort
abbrev pub GivesForeignMark : Option ℕ → TokenList → Span → Type 0
GivesForeignMark None ts marks = (inside rest : List Word) (w : Word) → IsBracket (tokens_in ts marks) inside rest → IsFirstForeign inside w → ⊥
GivesForeignMark (Some n) ts marks =
    IsPlace ts n × ((inside : List Word) × ((rest : List Word) × (IsBracket (tokens_in ts marks) inside rest × IsFirstForeign inside (token_at ts n))))
    × LiesIn marks n

-- the attribute of one word
abbrev pub flag_of : Word → Option Attribute
flag_of w =
    if is_word w (codes "left") then Some ToLeft
    else if is_word w (codes "right") then Some ToRight
    else if is_word w (codes "assoc") then Some Assoc
    else if is_word w (codes "comm") then Some Comm
    else if is_word w (codes "idem") then Some Idem
    else None

abbrev pub digit_of : ℕ → Option ℕ
digit_of b = if is_ascii_digit b then Some (b - 48) else None

abbrev pub two_digits : (tens ones : ℕ) → Option ℕ
two_digits b c = option_and_then (λ tens. option_map (λ ones. 10 * tens + ones) (digit_of c)) (digit_of b)

-- the number that at most three digits write, with no zero in front and at most 199
abbrev pub number_of : Word → Option ℕ
number_of [] = None
number_of (c ∷ []) = digit_of c
number_of (b ∷ (c ∷ [])) = if b == 48 then None else two_digits b c
number_of (a ∷ (b ∷ (c ∷ []))) = if a == 49 then option_map (λ n. 100 + n) (two_digits b c) else None
number_of (a ∷ (b ∷ (c ∷ (d ∷ w)))) = None

-- the attribute in front, and the words after it
abbrev pub prec_in : List Word → Option (Attribute × List Word)
prec_in [] = None
prec_in (w ∷ ws) = option_map (λ n. (Prec n, ws)) (number_of w)

abbrev pub attribute_in : List Word → Option (Attribute × List Word)
attribute_in [] = None
attribute_in (w ∷ ws) = if is_word w (codes "prec") then prec_in ws else option_map (λ t. (t, ws)) (flag_of w)

abbrev pub GivesAttribute : Option (Attribute × Span) → TokenList → Span → Type 0
GivesAttribute None ts span = attribute_in (tokens_in ts span) ≡ None
GivesAttribute (Some r) ts span =
    IsWithin ts r.1 × (span.from < r.1.from) × (r.1.to ≡ span.to) × (attribute_in (tokens_in ts span) ≡ Some (r.0, tokens_in ts r.1))

abbrev pub GivesAdded : Option Attributes → Attributes → List Word → Type 0
GivesAdded None a ws = (b : Attributes) → AddsAttributes a ws b → ⊥
GivesAdded (Some b) a ws = AddsAttributes a ws b

abbrev pub GivesAttributes : Option Attributes → List Word → Type 0
GivesAttributes None marks = (a : Attributes) → HasAttributes marks a → ⊥
GivesAttributes (Some a) marks = HasAttributes marks a

abbrev pub GivesForm : Result (List Piece) StatementFault → Word → Type 0
GivesForm (Ok ps) text = (ps ≡ pieces_of text) × (form_fault text ≡ None)
GivesForm (Err (LeftOut n)) text = ⊥
GivesForm (Err Shape) text = form_fault text ≢ None
GivesForm (Err Memory) text = Unit {0}

abbrev pub GivesSpelling : Result Spelling StatementFault → Attributes → Word → Type 0
GivesSpelling (Ok s) a text = IsSpelled a text (spelled_of s)
GivesSpelling (Err (LeftOut n)) a text = ⊥
GivesSpelling (Err Shape) a text = (s : Spelled) → IsSpelled a text s → ⊥
GivesSpelling (Err Memory) a text = Unit {0}

abbrev pub GivesSpellings : Result (Vec Spelling) StatementFault → Attributes → List Word → Type 0
GivesSpellings (Ok v) a texts = AreSpelled a texts (map spelled_of v.items)
GivesSpellings (Err (LeftOut n)) a texts = ⊥
GivesSpellings (Err Shape) a texts = (ss : List Spelled) → AreSpelled a texts ss → ⊥
GivesSpellings (Err Memory) a texts = Unit {0}

-- the tokens without the mark of an equation that is no rewrite rule
abbrev pub GivesUnmarked : Span × Bool → TokenList → Span → Type 0
GivesUnmarked r ts span = IsWithin ts r.0 × IsUnmarked (tokens_in ts span) (tokens_in ts r.0) r.1

-- what the tokens say, where they say anything
abbrev pub GivesSaid : Option Statement → TokenList → (Said → Type 0) → Type 0
GivesSaid None ts Says = (said : Said) → Says said → ⊥
GivesSaid (Some s) ts Says = Says (said_of ts s) × LiesWithin ts s

abbrev pub shaped : Option Statement → Result Statement StatementFault
shaped None = Err Shape
shaped (Some s) = Ok s

-- what the tokens after an operator's first word say
abbrev pub GivesOperators : Result Statement StatementFault → TokenList → (is_one : Bool) → Span → Type 0
GivesOperators r ts is_one span = SaysOrLeavesOut r ts span (IsOperators is_one (tokens_in ts span)) (HasForeign (tokens_in ts span))

-- There is a form, and each sort can be a sort.
pub record IsNamed (ts : TokenList) (h : Head) : Type 0 where
  pub some : tokens_in ts h.front ≢ []
  pub are_names : are_names (tokens_in ts h.args) ≡ true
  pub is_name : is_name (token_at ts h.result) ≡ true

-- what stands before and behind the first such word outside parentheses
abbrev pub GivesCut : Cut → TokenList → Span → Word → Type 0
GivesCut (At before after) ts span w =
    IsWithin ts before × IsWithin ts after × (parts_at w (tokens_in ts span) ≡ option_map (λ ps. tokens_in ts before ∷ ps) (parts_at w (tokens_in ts after)))
    × (after.to - after.from < span.to - span.from)
GivesCut Nowhere ts span w = parts_at w (tokens_in ts span) ≡ Some (tokens_in ts span ∷ [])
GivesCut Unopened ts span w = parts_at w (tokens_in ts span) ≡ None

-- the sides of the only equals sign
abbrev pub GivesSides : Option Sides → TokenList → Span → Type 0
GivesSides None ts span = (s : SaidSides) → AreSides (tokens_in ts span) s → ⊥
GivesSides (Some s) ts span = AreSides (tokens_in ts span) (sides_of ts s) × IsWithin ts s.left × IsWithin ts s.right

-- conditions, cut at each /\ outside parentheses
pub record AreConditions (ws : List Word) (conds : List SaidSides) : Type 0 where
  pub parts : List (List Word)
  pub cut : parts_at (codes "/\\") ws ≡ Some parts
  pub each : AreEachSides parts conds

abbrev pub GivesConditions : Option (Vec Sides) → TokenList → Span → Type 0
GivesConditions None ts span = (conds : List SaidSides) → AreConditions (tokens_in ts span) conds → ⊥
GivesConditions (Some v) ts span =
    AreConditions (tokens_in ts span) (map (sides_of ts) v.items) × AllByRecursion (λ s. IsWithin ts s.left × IsWithin ts s.right) v.items

-- sides under conditions
abbrev pub GivesConditional : Option Conditional → TokenList → Span → Type 0
GivesConditional None ts span = (s : SaidSides) (conds : List SaidSides) → AreUnderConditions (tokens_in ts span) s conds → ⊥
GivesConditional (Some c) ts span =
    AreUnderConditions (tokens_in ts span) (sides_of ts c.sides) (map (sides_of ts) c.conds.items) × IsWithin ts c.sides.left × IsWithin ts c.sides.right
    × AllByRecursion (λ s. IsWithin ts s.left × IsWithin ts s.right) c.conds.items

-- the only such word outside parentheses
abbrev pub GivesOneCut : Option (Span × Span) → TokenList → Span → Word → Type 0
GivesOneCut None ts span w = (front rest : List Word) → parts_at w (tokens_in ts span) ≡ Some (front ∷ (rest ∷ [])) → ⊥
GivesOneCut (Some r) ts span w = IsWithin ts r.0 × IsWithin ts r.1 × (parts_at w (tokens_in ts span) ≡ Some (tokens_in ts r.0 ∷ (tokens_in ts r.1 ∷ [])))

-- a condition more, or there is none
abbrev pub PushesCondition : Bool → TokenList → Span → (old new : List Sides) → Type 0
PushesCondition true ts span old new = (s : Sides) × (new ≡ old ++ s ∷ []) × AreSides (tokens_in ts span) (sides_of ts s) × IsWithin ts s.left × IsWithin ts s.right
PushesCondition false ts span old new = (s : SaidSides) → AreSides (tokens_in ts span) s → ⊥
