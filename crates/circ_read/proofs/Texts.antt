-- Texts by their bodies.
use Rattle.std.proofs.Common.{◌≡◌, ℕ, ◌+◌, List, [], ◌∷◌, ◌++◌, drop, Bool, false, Some, None, Result, Ok, Err, refl, sym, subst}
use Rattle.circ_lexer.specs.declared.fault.LexFault.{LexFault}
use Rattle.circ_lexer.specs.declared.fault.LexFault.TheVariants as lex
use Rattle.circ_lexer.specs.TokenList.{TokenList, AreTokens, GivesTokens}
use Rattle.circ_theory.specs.Theory.{Theory}
use Rattle.circ_statement.specs.declared.statements.Statement.{Statement}
use Rattle.circ_statement.specs.declared.statements.Statement.TheVariants as st
use Rattle.circ_statement.specs.Said.{Said, inclusion, said_of}
use Rattle.circ_read.specs.declared.cause.Cause.TheVariants as cause
use Rattle.circ_read.specs.declared.cause.Fault.{Fault}
use Rattle.circ_read.specs.declared.cause.Fault.TheVariants.{Because, Memory}
use Rattle.circ_read.specs.declared.cause.ReadFault.{ReadFault}
use Rattle.circ_read.specs.declared.cause.ReadFault.TheVariants as at
use Rattle.circ_read.specs.declared.text.Head.{Head}
use Rattle.circ_read.specs.Text.{ReadsTo, ending}
use Rattle.circ_read.specs.Failing.{HasNoHead, FailsAt, at_a_byte, at_the_head, in_the_body}
use Rattle.circ_read.specs.Adding.{AddsStatement}
use Rattle.circ_read.specs.Refusing.{RefusesStatement}
use Rattle.circ_read.specs.Includes.{Scope, scope, is_included, with_variables, text_named, Includes, anew, AddsIn, AddsBy, included_name}
use Rattle.circ_read.specs.RefusesIn.{broken, RefusesIn, RefusesBy}
use Rattle.circ_read.specs.ReadsAs.{begun, GivesTheory}
use Rattle.circ_read.specs.Outcomes.{ComesTo}
use Rattle.circ_read.proofs.Coming.{outcome_as}
use Rattle.circ_read.specs.declared.reader.Reader.{Reader}
use Rattle.circ_read.proofs.Walk.{AddsImage, RefusesImage, reaches_image, breaks_image}
use Rattle.circ_read.specs.Steps.{StepAnswers, byte_fault, IsHeadOf, SaidOutcome, TextOutcome, InclusionOutcome, GivesBody, GivesRead, fault_at, without_number, scope_of}

-- a bad byte
pub bad_text : (th : Theory) (bytes : List ℕ) (f : LexFault) (u : Theory) → GivesTokens (Err f) bytes → StepAnswers {U = Unit {0}} (Err (byte_fault f)) u (TextOutcome th bytes)
bad_text th bytes (lex.NotAscii n) u h = (0, at_a_byte (lex.NotAscii n) h)
bad_text th bytes (lex.Control n) u h = (0, at_a_byte (lex.Control n) h)
bad_text th bytes lex.Memory u h = tt

pub bad_bytes : (bytes : List ℕ) (f : LexFault) → GivesTokens (Err f) bytes → GivesTheory (Err (fault_at 0 (byte_fault f))) bytes
bad_bytes bytes (lex.NotAscii n) h = at_a_byte (lex.NotAscii n) h
bad_bytes bytes (lex.Control n) h = at_a_byte (lex.Control n) h
bad_bytes bytes lex.Memory h = tt

module _ (bytes : List ℕ) (ws : List (List ℕ)) (are : AreTokens bytes ws) where
  pub text_headless : (th : Theory) → HasNoHead ws → TextOutcome th bytes (Err cause.Shape)
  text_headless th h = (1, at_the_head ws are h)

  module _ (h : Head) (is : IsHeadOf ws h) where
    -- a text by its body
    pub text_by_body : (th u : Theory) → GivesBody AddsStatement RefusesStatement (Ok tt) th u (drop h.body ws) h.opened → TextOutcome th bytes (Ok u)
    text_by_body th u (k, r) =
        record { tokens = ws; are_tokens = are; opened = h.opened; name = h.name.now; body = drop h.body ws; head = is.head; count = k; statements = r }

    pub fault_by_body : (th u : Theory) (f : ReadFault) → GivesBody AddsStatement RefusesStatement (Err f) th u (drop h.body ws) h.opened
        → StepAnswers {U = Unit {0}} (Err (without_number f)) u (TextOutcome th bytes)
    fault_by_body th u (at.Statement n c) (k, e, b) = (k + 2, in_the_body ws h.opened h.name.now (drop h.body ws) k c are is.head b)
    fault_by_body th u at.Memory b = tt

    pub read_by_body : (r : Result Theory ReadFault) → GivesRead r (begun h.name.now) (drop h.body ws) h.opened → GivesTheory r bytes
    read_by_body (Ok th) (k, (names, r)) = record {
      included = names;
      leads = record { tokens = ws; are_tokens = are; opened = h.opened; name = h.name.now; body = drop h.body ws; head = is.head; count = k; statements = r };
    }
    read_by_body (Err (at.Statement n c)) (k, e, b) = subst (λ i. FailsAt AddsIn RefusesIn begun bytes i c) (sym e) (in_the_body ws h.opened h.name.now (drop h.body ws) k c are is.head b)
    read_by_body (Err at.Memory) b = tt

module _ (first last : Reader) (body : List (List ℕ)) (opened : Bool) where
  pub whole_read : GivesBody (AddsImage scope_of AddsIn RefusesIn) (RefusesImage scope_of AddsIn RefusesIn) (Ok tt) first last body opened → GivesRead (Ok last.theory) (scope_of first) body opened
  whole_read (k, r) = (k, (last.included.items, reaches_image scope_of AddsIn RefusesIn first body k last (ending opened) r))

  pub read_fault : (f : ReadFault) → GivesBody (AddsImage scope_of AddsIn RefusesIn) (RefusesImage scope_of AddsIn RefusesIn) (Err f) first last body opened → GivesRead (Err f) (scope_of first) body opened
  read_fault (at.Statement n c) (k, e, b) = (k, e, breaks_image scope_of AddsIn RefusesIn first body opened k c b)
  read_fault at.Memory h = tt

-- an inclusion by its text
module _ (s : Scope) (name text : List ℕ) (new : is_included s name ≡ false) (there : text_named name ≡ Some text) (th : Theory) (aside : th ≡ with_variables s.theory []) where
  pub included_anew : (u : Theory) → TextOutcome th text (Ok u) → Includes s name (scope (with_variables u s.theory.variables) (s.included ++ name ∷ []))
  included_anew u l = anew text u new there (subst (λ x. ReadsTo AddsStatement (λ _. x) text u) aside l)

  pub included_broken : (f : Fault) (u : Theory) (v : Scope) → StepAnswers {U = Unit {0}} (Err f) u (TextOutcome th text) → StepAnswers {U = Unit {0}} (Err f) v (InclusionOutcome s name)
  included_broken (Because c) u v (n, l) = broken text n c new there (subst (λ x. FailsAt AddsStatement RefusesStatement (λ _. x) text n c) aside l)
  included_broken Memory u v h = tt

pub included_as : (s : Scope) (name : List ℕ) (r : Result (Unit {0}) Fault) (t : Scope) → StepAnswers r t (InclusionOutcome s name)
    → StepAnswers r t (SaidOutcome AddsIn RefusesIn s (inclusion name))
included_as s name (Ok n) t h = h
included_as s name (Err (Because c)) t h = h
included_as s name (Err Memory) t h = tt

-- a statement that is no inclusion, in its scope
as_is : (s : Scope) (said : Said) → included_name said ≡ None → (r : Result (Unit {0}) Fault) (u : Theory) → StepAnswers r u (SaidOutcome AddsStatement RefusesStatement s.theory said)
    → StepAnswers r (scope u s.included) (SaidOutcome AddsIn RefusesIn s said)
as_is s said e (Ok n) u h = subst (λ o. AddsBy o s said (scope u s.included)) (sym e) (h, refl)
as_is s said e (Err (Because c)) u h = subst (λ o. RefusesBy o s said c) (sym e) h
as_is s said e (Err Memory) u h = tt

pub in_its_scope : (s : Scope) (said : Said) → included_name said ≡ None → (r : Result (Unit {0}) Fault) (u : Theory) → StepAnswers r u (ComesTo s.theory said)
    → StepAnswers r (scope u s.included) (SaidOutcome AddsIn RefusesIn s said)
in_its_scope s said e r u h = as_is s said e r u (outcome_as s.theory said r u h)

pub no_inclusion : (ts : TokenList) (statement : Statement) → ((n : ℕ) → statement ≡ st.Inclusion n → ⊥) → included_name (said_of ts statement) ≡ None
no_inclusion ts (st.Inclusion n) other = absurd (other n refl)
no_inclusion ts (st.Sorts names) other = refl
no_inclusion ts (st.Operators forms args result a c i) other = refl
no_inclusion ts (st.Variables names sort) other = refl
no_inclusion ts (st.Equation left right conds exec) other = refl
no_inclusion ts (st.Derivative term) other = refl
no_inclusion ts (st.Cases sort names) other = refl
