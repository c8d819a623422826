-- The bytes of a theory text: the theory that they read as (`ReadsAs`), or their first cause (`FirstCause`).
use Rattle.std.specs.Prelude.{ℕ, List, [], Result, Ok, Err}
use Rattle.circ_theory.specs.Theory.{Theory}
use Rattle.circ_read.specs.declared.cause.Cause.{Cause}
use Rattle.circ_read.specs.declared.cause.ReadFault.{ReadFault}
use Rattle.circ_read.specs.declared.cause.ReadFault.TheVariants.{Statement, Memory}
use Rattle.circ_read.specs.Text.{ReadsTo}
use Rattle.circ_read.specs.Failing.{FailsAt}
use Rattle.circ_read.specs.Includes.{Scope, scope, empty_theory, AddsIn}
use Rattle.circ_read.specs.RefusesIn.{RefusesIn}

-- A theory begins without parts, and nothing is included.
abbrev pub begun : List ℕ → Scope
begun name = scope (empty_theory name) []

-- The bytes are a text whose statements lead to the theory.
pub record ReadsAs (bytes : List ℕ) (th : Theory) : Type 0 where
  pub included : List (List ℕ)
  pub leads : ReadsTo AddsIn begun bytes (scope th included)

-- The first cause in the bytes is this one, and stands in this statement.
abbrev pub FirstCause : (bytes : List ℕ) (number : ℕ) → Cause → Type 0
FirstCause bytes n c = FailsAt AddsIn RefusesIn begun bytes n c

-- what reading a theory answers
abbrev pub GivesTheory : Result Theory ReadFault → List ℕ → Type 0
GivesTheory (Ok th) bytes = ReadsAs bytes th
GivesTheory (Err (Statement n c)) bytes = FirstCause bytes n c
GivesTheory (Err Memory) bytes = Unit {0}

-- The bytes read as a theory or have a first cause, by double negation.
abbrev pub ReadOrRefused : List ℕ → Type 0
ReadOrRefused bytes = ((th : Theory) → ReadsAs bytes th → ⊥) → ((n : ℕ) (c : Cause) → FirstCause bytes n c → ⊥) → ⊥
