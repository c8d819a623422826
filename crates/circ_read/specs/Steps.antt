-- What the steps of the reader answer.
use Rattle.std.specs.Prelude.{◌≡◌, ◌<◌, ◌≤◌, ◌+◌, ℕ, List, [], ◌∷◌, ◌++◌, Bool, true, false, drop, length, codes, nat_eq, Option, Some, None, Result, Ok, Err}
use Rattle.std.specs.List.{slice_range, slice_get}
use Rattle.std.specs.Option.{option_map_or}
use Rattle.std.specs.Cmp.Lexicographic.{pointwise}
use Rattle.std.specs.Global.{Vec}
use Rattle.circ_lexer.specs.TokenList.{TokenList}
use Rattle.circ_theory.specs.declared.fault.TheoryFault.{TheoryFault}
use Rattle.circ_theory.specs.declared.fault.TheoryFault.TheVariants as fault
use Rattle.circ_lexer.specs.declared.fault.LexFault.{LexFault}
use Rattle.circ_lexer.specs.declared.fault.LexFault.TheVariants as lex
use Rattle.circ_read.specs.declared.cause.Cause.{Cause}
use Rattle.circ_read.specs.declared.cause.Fault.{Fault}
use Rattle.circ_read.specs.declared.cause.Fault.TheVariants.{Because, Memory}
use Rattle.circ_read.specs.declared.text.Head.{Head}
use Rattle.circ_read.specs.declared.reader.Reader.{Reader}
use Rattle.circ_theory.specs.Theory.{Theory}
use Rattle.circ_statement.specs.declared.statements.Statement.{Statement}
use Rattle.circ_statement.specs.Words.{is_name}
use Rattle.circ_statement.specs.Statement.{IsStatement, IsLeftOut}
use Rattle.circ_statement.specs.Said.{Said, SaidSides, said_of, LiesWithin, equation, derivative}
use Rattle.circ_statement.specs.declared.statements.Sides.{Sides}
use Rattle.circ_lexer.specs.declared.tokens.Span.{Span}
use Rattle.circ_read.specs.declared.cause.ReadFault.{ReadFault}
use Rattle.circ_read.specs.declared.cause.ReadFault.TheVariants as at
use Rattle.circ_read.specs.Outcomes.{ComesTo}
use Rattle.circ_read.specs.Causes.{cause_of, byte_cause}
use Rattle.circ_read.specs.declared.cause.Cause.TheVariants as cause
use Rattle.circ_mixfix.specs.declared.parse.ParseFault.{ParseFault}
use Rattle.circ_mixfix.specs.declared.parse.ParseFault.TheVariants as parse
use Rattle.circ_read.specs.Text.{HasNoStop, IsTextHead, ending, AddsTokens, Reaches, ReadsTo}
use Rattle.circ_read.specs.Failing.{HasNoHead, IsNoStatement, RefusesTokens, Breaks, FailsAt}
use Rattle.circ_read.specs.Adding.{AddsStatement}
use Rattle.circ_read.specs.Refusing.{RefusesStatement, shown_text}
use Rattle.circ_read.specs.Includes.{Scope, scope, Includes, AddsIn}
use Rattle.circ_read.specs.RefusesIn.{RefusesInclusion, RefusesIn}

-- what a call answers that has an outcome: this value; or a cause; or memory ran out
abbrev pub StepAnswers : {U A : Type 0} → Result U Fault → A → (Result A Cause → Type 0) → Type 0
StepAnswers (Ok u) a Has = Has (Ok a)
StepAnswers (Err (Because c)) a Has = Has (Err c)
StepAnswers (Err Memory) a Has = Unit {0}

-- the same of the value that is answered
abbrev pub Finds : {A : Type 0} → Result A Fault → Result A Cause → Type 0
Finds (Ok a) o = o ≡ Ok a
Finds (Err (Because c)) o = o ≡ Err c
Finds (Err Memory) o = Unit {0}

-- the cause that a fault of a theory is, or out of memory
abbrev pub fault_of : TheoryFault → Fault
fault_of fault.Memory = Memory
fault_of f = Because (cause_of f)

abbrev pub byte_fault : LexFault → Fault
byte_fault lex.Memory = Memory
byte_fault f = Because (byte_cause f)

-- the answer of a call that adds a part, without the part's number
abbrev pub done : Result ℕ TheoryFault → Result (Unit {0}) Fault
done (Ok n) = Ok tt
done (Err f) = Err (fault_of f)

-- whether the token of a number is this word
abbrev pub has_word_at : List (List ℕ) → (n : ℕ) → List ℕ → Bool
has_word_at ws n w = option_map_or (λ v. pointwise nat_eq v w) (slice_get ws n) false

-- the first stop from a place on
pub record IsStopAfter (ws : List (List ℕ)) (at n : ℕ) : Type 0 where
  pub ahead : at ≤ n
  pub within : n < length ws
  pub tokens : drop at ws ≡ slice_range ws at n ++ codes "." ∷ drop (n + 1) ws
  pub no_stop : HasNoStop (slice_range ws at n)

abbrev pub GivesStop : Option ℕ → List (List ℕ) → (at : ℕ) → Type 0
GivesStop None ws at = HasNoStop (drop at ws)
GivesStop (Some n) ws at = IsStopAfter ws at n

-- the name of the head that begins at a place
pub record IsNameAt (ws : List (List ℕ)) (at : ℕ) (name : List ℕ) : Type 0 where
  pub is_name : is_name name ≡ true
  pub words : drop at ws ≡ codes "theory" ∷ name ∷ codes "is" ∷ drop (at + 3) ws
  pub within : at + 3 ≤ length ws

abbrev pub GivesTextName : Option (List ℕ) → List (List ℕ) → (at : ℕ) → Type 0
GivesTextName None ws at = (name : List ℕ) (body : List (List ℕ)) → is_name name ≡ true → drop at ws ≡ codes "theory" ∷ name ∷ codes "is" ∷ body → ⊥
GivesTextName (Some name) ws at = IsNameAt ws at name

-- the head, with the place of the body
pub record IsHeadOf (ws : List (List ℕ)) (h : Head) : Type 0 where
  pub head : IsTextHead ws h.opened h.name.now (drop h.body ws)
  pub some : 2 < h.body
  pub within : h.body ≤ length ws

abbrev pub GivesTextHead : Option Head → List (List ℕ) → Type 0
GivesTextHead None ws = HasNoHead ws
GivesTextHead (Some h) ws = IsHeadOf ws h

abbrev pub scope_of : Reader → Scope
scope_of r = scope r.theory r.included.items

-- the same of the items of a vector
abbrev pub FindsAll : Result (Vec ℕ) Fault → Result (List ℕ) Cause → Type 0
FindsAll (Ok v) o = o ≡ Ok v.items
FindsAll (Err (Because c)) o = o ≡ Err c
FindsAll (Err Memory) o = Unit {0}

-- what adding an equation comes to, and a derivative
abbrev pub GivesEquation : Theory → (left right : List (List ℕ)) → List SaidSides → (exec : Bool) → Result Theory Cause → Type 0
GivesEquation th left right conds exec r = ComesTo th (equation left right conds exec) r

-- the spans of conditions' sides, in order
abbrev pub condition_spans : List Sides → List Span
condition_spans [] = []
condition_spans (s ∷ conds) = s.left ∷ s.right ∷ condition_spans conds

abbrev pub GivesDerivative : Theory → List (List ℕ) → Result Theory Cause → Type 0
GivesDerivative th term r = ComesTo th (derivative term) r

-- the cause that a fault of reading terms, perhaps with a hole, is, or out of memory
abbrev pub IsNoReading : (hole : Bool) → Fault → Theory → ParseFault → Type 0
IsNoReading hole (Because c) th (parse.TooLong n) = c ≡ cause.TooLong n
IsNoReading hole (Because c) th parse.NoParse = c ≡ cause.NoParse
IsNoReading hole (Because c) th (parse.Ambiguous a b) = c ≡ cause.Ambiguous (shown_text hole th a.terms.items) (shown_text hole th b.terms.items)
IsNoReading hole (Because c) th parse.Memory = ⊥
IsNoReading hole Memory th f = Unit {0}

-- what the tokens of a span say, or why they say nothing
pub record IsSaid (ws : List (List ℕ)) (ts : TokenList) (s : Statement) : Type 0 where
  pub says : IsStatement ws (said_of ts s)
  pub within : LiesWithin ts s
  pub kept : (w : List ℕ) → IsLeftOut ws w → ⊥

abbrev pub GivesShape : Result Statement Fault → TokenList → List (List ℕ) → Type 0
GivesShape (Ok s) ts ws = IsSaid ws ts s
GivesShape (Err (Because c)) ts ws = IsNoStatement ws c
GivesShape (Err Memory) ts ws = Unit {0}

-- a statement's outcome, that of its tokens, and that of an inclusion
abbrev pub SaidOutcome : {A : Type 0} → (A → Said → A → Type 0) → (A → Said → Cause → Type 0) → A → Said → Result A Cause → Type 0
SaidOutcome Adds Refuses a said (Ok b) = Adds a said b
SaidOutcome Adds Refuses a said (Err c) = Refuses a said c

abbrev pub TokensOutcome : {A : Type 0} → (A → Said → A → Type 0) → (A → Said → Cause → Type 0) → A → List (List ℕ) → Result A Cause → Type 0
TokensOutcome Adds Refuses a ws (Ok b) = AddsTokens Adds a ws b
TokensOutcome Adds Refuses a ws (Err c) = RefusesTokens Refuses a ws c

abbrev pub InclusionOutcome : Scope → List ℕ → Result Scope Cause → Type 0
InclusionOutcome s name (Ok t) = Includes s name t
InclusionOutcome s name (Err c) = RefusesInclusion s name c

-- the last theory of a text that is read in a theory, or its first cause
abbrev pub TextOutcome : Theory → (bytes : List ℕ) → Result Theory Cause → Type 0
TextOutcome th bytes (Ok u) = ReadsTo AddsStatement (λ _. th) bytes u
TextOutcome th bytes (Err c) = (n : ℕ) × FailsAt AddsStatement RefusesStatement (λ _. th) bytes n c

-- a body's last value, or its first cause with the number of the statement
abbrev pub GivesBody : {A : Type 0} → (A → Said → A → Type 0) → (A → Said → Cause → Type 0) → Result (Unit {0}) ReadFault
    → (first last : A) → (body : List (List ℕ)) (opened : Bool) → Type 0
GivesBody Adds Refuses (Ok u) first last body opened = (k : ℕ) × Reaches Adds first body k last (ending opened)
GivesBody Adds Refuses (Err (at.Statement n c)) first last body opened = (k : ℕ) × (n ≡ k + 2) × Breaks Adds Refuses first body opened k c
GivesBody Adds Refuses (Err at.Memory) first last body opened = Unit {0}

-- the theory that a body leads to, or its first cause
abbrev pub GivesRead : Result Theory ReadFault → (first : Scope) → (body : List (List ℕ)) (opened : Bool) → Type 0
GivesRead (Ok th) first body opened = (k : ℕ) × ((names : List (List ℕ)) × Reaches AddsIn first body k (scope th names) (ending opened))
GivesRead (Err (at.Statement n c)) first body opened = (k : ℕ) × (n ≡ k + 2) × Breaks AddsIn RefusesIn first body opened k c
GivesRead (Err at.Memory) first body opened = Unit {0}

-- a fault of a step, with the number of its statement
abbrev pub fault_at : ℕ → Fault → ReadFault
fault_at n (Because c) = at.Statement n c
fault_at n Memory = at.Memory

abbrev pub without_number : ReadFault → Fault
without_number (at.Statement n c) = Because c
without_number at.Memory = Memory
