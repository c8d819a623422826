-- Causes: why a text is refused.
use Rattle.std.specs.Prelude.{List, ℕ, Result, Err}
use Rattle.circ_lexer.specs.declared.fault.LexFault.{LexFault}
use Rattle.circ_lexer.specs.declared.fault.LexFault.TheVariants as lex
use Rattle.circ_theory.specs.declared.fault.TheoryFault.{TheoryFault}
use Rattle.circ_theory.specs.declared.fault.TheoryFault.TheVariants as fault
use Rattle.circ_read.specs.declared.cause.Cause.{Cause}
use Rattle.circ_read.specs.declared.cause.Cause.TheVariants as cause

-- the cause by which a part is not added to a theory; out of memory is none
abbrev pub cause_of : TheoryFault → Cause
cause_of (fault.Twice n) = cause.Twice n
cause_of (fault.UnknownSort s) = cause.UnknownSort
cause_of (fault.IllSorted f) = cause.IllSorted f
cause_of (fault.NotLinear n) = cause.NotLinear n
cause_of (fault.HoleCount n) = cause.HoleCount n
cause_of fault.NoConstant = cause.NoConstant
cause_of (fault.NotVisible s) = cause.NotVisible s
cause_of (fault.NowHidden s) = cause.NowHidden s
cause_of (fault.Limit n) = cause.Limit n
cause_of fault.Memory = cause.Shape

-- the cause by which bytes are no tokens; out of memory is none
abbrev pub byte_cause : LexFault → Cause
byte_cause (lex.NotAscii n) = cause.NotAscii n
byte_cause (lex.Control n) = cause.Control n
byte_cause lex.Memory = cause.Shape

-- the same outcome; of several readings, any two may be shown
pub data AreAlike {A : Type 0} : Result A Cause → Result A Cause → Type 0 where
  same : {r : Result A Cause} → AreAlike r r
  ambiguous : {s t u v : List ℕ} → AreAlike (Err (cause.Ambiguous s t)) (Err (cause.Ambiguous u v))
