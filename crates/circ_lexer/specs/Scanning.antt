-- How bytes are cut into tokens from the left.
use Rattle.std.specs.Prelude.{◌≡◌, ◌<◌, ◌≤◌, ℕ, List, [], ◌∷◌, ◌++◌, length, drop, Bool, false, if◌then◌else◌, Option, Some, None, Result, Ok, Err}
use Rattle.std.specs.Global.{Vec}
use Rattle.circ_lexer.specs.declared.tokens.Span.{Span}
use Rattle.circ_lexer.specs.declared.fault.LexFault.{LexFault}
use Rattle.circ_lexer.specs.declared.fault.LexFault.TheVariants.{Memory}
use Rattle.circ_lexer.specs.Bytes.{is_blank, is_bad, begins_comment}
use Rattle.circ_lexer.specs.Cuts.{Cuts, IsFirstBad, AreSpans, span, fault_of}

-- Between two places stand these tokens.
pub record Scans (bytes : List ℕ) (at : ℕ) (ss : List Span) (to : ℕ) : Type 0 where
  pub ahead : at ≤ to
  pub within : to ≤ length bytes
  pub sound : (us : List Span) (o : Option LexFault) → Cuts to (drop to bytes) us o → Cuts at (drop at bytes) (ss ++ us) o

-- whether the first byte passes the test
abbrev pub begins : (ℕ → Bool) → List ℕ → Bool
begins p [] = false
begins p (b ∷ bs) = p b

-- the fault of the first byte, if it is bad
abbrev pub fault_in : List ℕ → ℕ → Option LexFault
fault_in [] place = None
fault_in (b ∷ bs) place = if is_bad b then Some (fault_of b place) else None

-- Neither a blank nor a comment begins here.
pub record BeginsToken (bs : List ℕ) : Type 0 where
  pub no_blank : begins is_blank bs ≡ false
  pub no_comment : begins_comment bs ≡ false

-- a token from one place to another, or the fault in it
abbrev pub GivesToken : Result ℕ LexFault → List ℕ → ℕ → Type 0
GivesToken (Ok to) bytes at = (at < to) × Scans bytes at (span at to ∷ []) to
GivesToken (Err fault) bytes at = Cuts at (drop at bytes) [] (Some fault)

-- the spans of the tokens, or the first bad byte
abbrev pub GivesSpans : Result (Vec Span) LexFault → List ℕ → Type 0
GivesSpans (Ok v) bytes = AreSpans bytes v.items
GivesSpans (Err Memory) bytes = Unit {0}
GivesSpans (Err fault) bytes = IsFirstBad bytes fault
