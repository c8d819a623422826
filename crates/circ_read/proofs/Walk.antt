-- A walk over the statements of a body, from stop to stop.
use Rattle.std.proofs.Common.{◌≡◌, ℕ, ◌+◌, ◌≤◌, ◌<◌, List, length, drop, slice_range, Bool, Result, Ok, Err, subst, arith}
use Rattle.circ_lexer.specs.TokenList.{TokenList}
use Rattle.circ_statement.specs.declared.statements.Statement.{Statement}
use Rattle.circ_statement.specs.Said.{Said, said_of}
use Rattle.circ_read.specs.declared.cause.Cause.{Cause}
use Rattle.circ_read.specs.declared.cause.Cause.TheVariants as cause
use Rattle.circ_read.specs.declared.cause.Fault.{Fault}
use Rattle.circ_read.specs.declared.cause.Fault.TheVariants.{Because, Memory}
use Rattle.circ_read.specs.Text.{HasNoStop, ending, AddsTokens, Reaches, start, next}
use Rattle.circ_read.specs.Failing.{RefusesTokens, says_nothing, is_refused, Breaks, at_a_statement, at_the_end}
use Rattle.circ_read.specs.Steps.{StepAnswers, SaidOutcome, TokensOutcome, IsStopAfter, GivesShape, IsSaid, GivesBody, fault_at}

-- k statements lie between the body's first token and this place
pub record Walked {A : Type 0} (Adds : A → Said → A → Type 0) (first : A) (ws : List (List ℕ)) (body k : ℕ) (now : A) (at : ℕ) : Type 0 where
  pub within : at ≤ length ws
  pub reached : Reaches Adds first (drop body ws) k now (drop at ws)

module _ {A : Type 0} (Adds : A → Said → A → Type 0) (Refuses : A → Said → Cause → Type 0) (first : A) (ws : List (List ℕ)) (body : ℕ) where
  pub walk_begins : body ≤ length ws → Walked Adds first ws body 0 first body
  walk_begins h = record { within = h; reached = start }

  module _ (k : ℕ) (now : A) (at : ℕ) (w : Walked Adds first ws body k now at) where
    pub walk_goes_on : (n : ℕ) (b : A) → IsStopAfter ws at n → AddsTokens Adds now (slice_range ws at n) b → Walked Adds first ws body (k + 1) b (n + 1)
    walk_goes_on n b s d = record {
      within = let h : n < length ws = s.within in omega arith;
      reached = next k now b (drop at ws) (slice_range ws at n) (drop (n + 1) ws) w.reached s.tokens s.no_stop d;
    }

    module _ (opened : Bool) where
      pub walk_breaks : (n : ℕ) (c : Cause) → IsStopAfter ws at n → RefusesTokens Refuses now (slice_range ws at n) c → Breaks Adds Refuses first (drop body ws) opened k c
      walk_breaks n c s d = at_a_statement k now (drop at ws) (slice_range ws at n) (drop (n + 1) ws) c w.reached s.tokens s.no_stop d

      pub walk_ends : drop at ws ≡ ending opened → Reaches Adds first (drop body ws) k now (ending opened)
      walk_ends e = subst (λ x. Reaches Adds first (drop body ws) k now x) e w.reached

      pub walk_ends_not : HasNoStop (drop at ws) → (drop at ws ≡ ending opened → ⊥) → Breaks Adds Refuses first (drop body ws) opened k cause.Shape
      walk_ends_not h lacks = at_the_end k now (drop at ws) w.reached h lacks

      -- a step's fault ends it
      pub walk_faults_at : (number n : ℕ) (f : Fault) (u last : A) → number ≡ k + 2 → IsStopAfter ws at n → StepAnswers {U = Unit {0}} (Err f) u (TokensOutcome Adds Refuses now (slice_range ws at n))
          → GivesBody Adds Refuses (Err (fault_at number f)) first last (drop body ws) opened
      walk_faults_at number n (Because c) u last e s d = (k, e, walk_breaks n c s d)
      walk_faults_at number n Memory u last e s d = tt

module _ {A : Type 0} (Adds : A → Said → A → Type 0) (Refuses : A → Said → Cause → Type 0) (now : A) (ts : TokenList) (ws : List (List ℕ)) where
  -- the tokens say nothing
  pub no_words : (f : Fault) (u : A) → GivesShape (Err f) ts ws → StepAnswers {U = Unit {0}} (Err f) u (TokensOutcome Adds Refuses now ws)
  no_words (Because c) u h = says_nothing h
  no_words Memory u h = tt

  -- they say something
  pub some_words : (s : Statement) (r : Result (Unit {0}) Fault) (u : A) → IsSaid ws ts s → StepAnswers r u (SaidOutcome Adds Refuses now (said_of ts s))
      → StepAnswers r u (TokensOutcome Adds Refuses now ws)
  some_words s (Ok n) u h d = record { said = said_of ts s; kept = h.kept; says = h.says; adds = d }
  some_words s (Err (Because c)) u h d = is_refused (said_of ts s) h.kept h.says d
  some_words s (Err Memory) u h d = tt

-- a walk in one kind of values is one in another, by their images
module _ {A B : Type 0} (image : A → B) (Adds : B → Said → B → Type 0) (Refuses : B → Said → Cause → Type 0) where
  abbrev pub AddsImage : A → Said → A → Type 0
  AddsImage a s b = Adds (image a) s (image b)

  abbrev pub RefusesImage : A → Said → Cause → Type 0
  RefusesImage a s c = Refuses (image a) s c

  pub said_image : (a b : A) (s : Said) (r : Result (Unit {0}) Fault) → StepAnswers r (image b) (SaidOutcome Adds Refuses (image a) s) → StepAnswers r b (SaidOutcome AddsImage RefusesImage a s)
  said_image a b s (Ok n) h = h
  said_image a b s (Err (Because c)) h = h
  said_image a b s (Err Memory) h = tt

  pub reaches_image : (first : A) (body : List (List ℕ)) (k : ℕ) (now : A) (left : List (List ℕ)) → Reaches AddsImage first body k now left → Reaches Adds (image first) body k (image now) left
  reaches_image first body k now left start = start
  reaches_image first body k now left (next i a b here ws rest r e n t) =
      next i (image a) (image b) here ws rest (reaches_image first body i a here r) e n (record { said = t.said; kept = t.kept; says = t.says; adds = t.adds })

  refused_image : (a : A) (ws : List (List ℕ)) (c : Cause) → RefusesTokens RefusesImage a ws c → RefusesTokens Refuses (image a) ws c
  refused_image a ws c (says_nothing h) = says_nothing h
  refused_image a ws c (is_refused s kept says h) = is_refused s kept says h

  pub breaks_image : (first : A) (body : List (List ℕ)) (opened : Bool) (k : ℕ) (c : Cause) → Breaks AddsImage RefusesImage first body opened k c → Breaks Adds Refuses (image first) body opened k c
  breaks_image first body opened k c (at_a_statement i a here ws left d r e n t) =
      at_a_statement i (image a) here ws left d (reaches_image first body i a here r) e n (refused_image a ws d t)
  breaks_image first body opened k c (at_the_end i a left r h n) = at_the_end i (image a) left (reaches_image first body i a left r) h n
