-- Why a text is refused: the first cause and its place. What a statement adds, and why one is refused, are parameters here.
use Rattle.std.specs.Prelude.{◌≡◌, ◌≢◌, ℕ, ◌+◌, List, ◌∷◌, ◌++◌, Bool, codes}
use Rattle.circ_lexer.specs.declared.fault.LexFault.{LexFault}
use Rattle.circ_lexer.specs.Cuts.{IsFirstBad}
use Rattle.circ_lexer.specs.TokenList.{AreTokens}
use Rattle.circ_statement.specs.Said.{Said}
use Rattle.circ_statement.specs.Statement.{IsStatement, IsLeftOut}
use Rattle.circ_read.specs.declared.cause.Cause.{Cause}
use Rattle.circ_read.specs.declared.cause.Cause.TheVariants as cause
use Rattle.circ_read.specs.Causes.{byte_cause}
use Rattle.circ_read.specs.Text.{HasNoStop, IsTextHead, ending, Reaches}

abbrev pub HasNoHead : List (List ℕ) → Type 0
HasNoHead ws = (opened : Bool) (name : List ℕ) (body : List (List ℕ)) → IsTextHead ws opened name body → ⊥

-- The tokens are no statement, for this cause: they are left out, by a word, or they say nothing.
pub data IsNoStatement (ws : List (List ℕ)) : Cause → Type 0 where
  left_out : (w : List ℕ) → IsLeftOut ws w → IsNoStatement ws (cause.LeftOut w)
  no_shape : ((w : List ℕ) → IsLeftOut ws w → ⊥) → ((s : Said) → IsStatement ws s → ⊥) → IsNoStatement ws cause.Shape

-- A statement's tokens are refused: they are no statement, or what they say is refused.
pub data RefusesTokens {A : Type 0} (Refuses : A → Said → Cause → Type 0) (a : A) (ws : List (List ℕ)) (c : Cause) : Type 0 where
  says_nothing : IsNoStatement ws c → RefusesTokens Refuses a ws c
  is_refused : (s : Said) → ((w : List ℕ) → IsLeftOut ws w → ⊥) → IsStatement ws s → Refuses a s c → RefusesTokens Refuses a ws c

-- After k statements of a body, which are added, comes this cause: of the statement that is next, or since something else than the end
-- stands after the last stop.
pub data Breaks {A : Type 0} (Adds : A → Said → A → Type 0) (Refuses : A → Said → Cause → Type 0) (first : A) (body : List (List ℕ)) (opened : Bool)
    : (k : ℕ) → Cause → Type 0 where
  at_a_statement : (k : ℕ) (a : A) (here ws left : List (List ℕ)) (c : Cause) → Reaches Adds first body k a here → here ≡ ws ++ codes "." ∷ left → HasNoStop ws
      → RefusesTokens Refuses a ws c → Breaks Adds Refuses first body opened k c
  at_the_end : (k : ℕ) (a : A) (left : List (List ℕ)) → Reaches Adds first body k a left → HasNoStop left → left ≢ ending opened
      → Breaks Adds Refuses first body opened k cause.Shape

-- The first cause in the bytes, with the number of its statement: 0 for a bad byte, 1 for the head, then each statement, and then the end.
pub data FailsAt {A : Type 0} (Adds : A → Said → A → Type 0) (Refuses : A → Said → Cause → Type 0) (begin : List ℕ → A) (bytes : List ℕ)
    : (number : ℕ) → Cause → Type 0 where
  at_a_byte : (f : LexFault) → IsFirstBad bytes f → FailsAt Adds Refuses begin bytes 0 (byte_cause f)
  at_the_head : (tokens : List (List ℕ)) → AreTokens bytes tokens → HasNoHead tokens → FailsAt Adds Refuses begin bytes 1 cause.Shape
  in_the_body : (tokens : List (List ℕ)) (opened : Bool) (name : List ℕ) (body : List (List ℕ)) (k : ℕ) (c : Cause) → AreTokens bytes tokens
      → IsTextHead tokens opened name body → Breaks Adds Refuses (begin name) body opened k c → FailsAt Adds Refuses begin bytes (k + 2) c
