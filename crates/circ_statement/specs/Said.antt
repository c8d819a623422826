-- What a statement says.
use Rattle.std.specs.Prelude.{◌<◌, ◌≤◌, ℕ, List, [], Bool, map, length, unwrap_or}
use Rattle.std.specs.List.{slice_get, AllByRecursion}
use Rattle.circ_lexer.specs.TokenList.{TokenList, tokens_of, tokens_in, IsWithin}
use Rattle.circ_lexer.specs.declared.tokens.Span.{Span}
use Rattle.circ_statement.specs.declared.statements.Spelling.{Spelling}
use Rattle.circ_statement.specs.declared.statements.Sides.{Sides}
use Rattle.circ_statement.specs.declared.statements.Statement.{Statement}
use Rattle.circ_statement.specs.declared.statements.Statement.TheVariants.{Inclusion, Sorts, Operators, Variables, Equation, Derivative, Cases}
use Rattle.circ_statement.specs.Words.{Word}
use Rattle.circ_statement.specs.Attributes.{Spelled}

-- the two sides of an equals sign
pub record SaidSides : Type 0 where
  pub left : List Word
  pub right : List Word

-- by the words of its text, without any theory
pub data Said : Type 0 where
  inclusion : (name : Word) → Said
  sorts : (names : List Word) → Said
  operators : (forms : List Spelled) (args : List Word) (result : Word) (assoc comm idem : Bool) → Said
  variables : (names : List Word) (sort : Word) → Said
  equation : (left right : List Word) (conds : List SaidSides) (exec : Bool) → Said
  derivative : (term : List Word) → Said
  cases : (sort : Word) (names : List Word) → Said

-- the token of this number
abbrev pub token_at : TokenList → ℕ → Word
token_at ts n = unwrap_or (slice_get (tokens_of ts) n) []

abbrev pub IsPlace : TokenList → ℕ → Type 0
IsPlace ts n = n < length (tokens_of ts)

-- The token of this number lies in the span.
pub record LiesIn (span : Span) (n : ℕ) : Type 0 where
  pub from : span.from ≤ n
  pub to : n < span.to

abbrev pub spelled_of : Spelling → Spelled
spelled_of s = record { form = s.form; prec = s.prec; side = s.side }

abbrev pub sides_of : TokenList → Sides → SaidSides
sides_of ts s = record { left = tokens_in ts s.left; right = tokens_in ts s.right }

-- what a statement of the code says
abbrev pub said_of : TokenList → Statement → Said
said_of ts (Inclusion name) = inclusion (token_at ts name)
said_of ts (Sorts names) = sorts (tokens_in ts names)
said_of ts (Operators forms args result assoc comm idem) = operators (map spelled_of forms.items) (tokens_in ts args) (token_at ts result) assoc comm idem
said_of ts (Variables names sort) = variables (tokens_in ts names) (token_at ts sort)
said_of ts (Equation left right conds exec) = equation (tokens_in ts left) (tokens_in ts right) (map (sides_of ts) conds.items) exec
said_of ts (Derivative term) = derivative (tokens_in ts term)
said_of ts (Cases sort names) = cases (token_at ts sort) (tokens_in ts names)

-- Its places and spans lie within the tokens.
abbrev pub LiesWithin : TokenList → Statement → Type 0
LiesWithin ts (Inclusion name) = IsPlace ts name
LiesWithin ts (Sorts names) = IsWithin ts names
LiesWithin ts (Operators forms args result assoc comm idem) = IsWithin ts args × IsPlace ts result
LiesWithin ts (Variables names sort) = IsWithin ts names × IsPlace ts sort
LiesWithin ts (Equation left right conds exec) = IsWithin ts left × IsWithin ts right × AllByRecursion (λ s. IsWithin ts s.left × IsWithin ts s.right) conds.items
LiesWithin ts (Derivative term) = IsWithin ts term
LiesWithin ts (Cases sort names) = IsPlace ts sort × IsWithin ts names
