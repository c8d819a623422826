-- Tokens as contracts see them.
use Rattle.std.specs.Prelude.{◌≡◌, ◌≢◌, ◌≤◌, ℕ, length, List, [], ◌∷◌, ◌++◌, map, true, false, Option, Some, None, Result, Ok, Err}
use Rattle.std.specs.List.{slice_range, list_all}
use Rattle.circ_lexer.specs.declared.tokens.Span.{Span}
use Rattle.circ_lexer.specs.declared.fault.LexFault.{LexFault}
use Rattle.circ_lexer.specs.declared.fault.LexFault.TheVariants.{Memory}
use Rattle.circ_lexer.specs.Bytes.{is_special, is_plain, begins_comment}
use Rattle.circ_lexer.specs.Cuts.{AreSpans, IsFirstBad}

-- some bytes, and the spans of their tokens
pub record TokenList : Type 0 where
  pub source : List ℕ
  pub spans : List Span

-- the tokens as texts
abbrev pub tokens_of : TokenList → List (List ℕ)
tokens_of t = map (λ s. slice_range t.source s.from s.to) t.spans

-- The bytes are cut into these tokens.
abbrev pub AreTokens : List ℕ → List (List ℕ) → Type 0
AreTokens bytes ws = (ss : List Span) × (AreSpans bytes ss × (ws ≡ tokens_of (record { source = bytes; spans = ss })))

-- what cutting some bytes answers: the tokens, or the first bad byte
abbrev pub GivesTokens : Result TokenList LexFault → List ℕ → Type 0
GivesTokens (Ok t) bytes = (t.source ≡ bytes) × AreSpans bytes t.spans
GivesTokens (Err Memory) bytes = Unit {0}
GivesTokens (Err fault) bytes = IsFirstBad bytes fault

-- The answer is this outcome, or want of memory.
abbrev pub IsOutcome : Result TokenList LexFault → List ℕ → List Span → Option LexFault → Type 0
IsOutcome (Ok t) bytes ss o = (t ≡ record { source = bytes; spans = ss }) × (o ≡ None)
IsOutcome (Err Memory) bytes ss o = Unit {0}
IsOutcome (Err fault) bytes ss o = o ≡ Some fault

-- a text that can be a token: a special byte, or plain bytes, at least one, that begin no comment
pub data IsToken : List ℕ → Type 0 where
  special_token : (b : ℕ) → is_special b ≡ true → IsToken (b ∷ [])
  run_token : (w : List ℕ) → w ≢ [] → list_all is_plain w ≡ true → begins_comment w ≡ false → IsToken w

-- tokens written one after another, each with a space after it
abbrev pub spaced : List (List ℕ) → List ℕ
spaced [] = []
spaced (w ∷ ws) = w ++ 32 ∷ spaced ws

-- the tokens of a span, which counts tokens
abbrev pub tokens_in : TokenList → Span → List (List ℕ)
tokens_in ts span = slice_range (tokens_of ts) span.from span.to

-- The span lies within the tokens.
pub record IsWithin (ts : TokenList) (span : Span) : Type 0 where
  pub ahead : span.from ≤ span.to
  pub within : span.to ≤ length (tokens_of ts)
