-- What `same` does: its outcome, what it answers, and what it prints.
use Rattle.std.specs.Prelude.{◌≡◌, ◌⊎◌, ℕ, List, map, length, codes, unwrap_or, [], true, Option, Some, None}
use Rattle.std.specs.List.{slice_get}
use Rattle.circ_auto.specs.declared.fault.AutoCause.{AutoCause}
use Rattle.circ_auto.specs.declared.fault.AutoCause.TheVariants as auto
use Rattle.circ_auto.specs.Machine.{Machine, Compares}
use Rattle.circ_auto.specs.Text.{ReadsAsAutomaton, FirstAutoCause}
use Rattle.circ_outer.specs.Shelf.{ShelfState}
use Rattle.circ_read.specs.declared.cause.Cause.{Cause}
use Rattle.circ_read.specs.declared.cause.Cause.TheVariants as cause
use Rattle.circ_files.specs.Refusals.{statement_places, text_of_refusal}
use Rattle.circ_files.specs.Files.{Held, IsOnly, AreBytes, Holds, Refusal, RefusesFile, IsFileFault}
use Rattle.circ_status.specs.Texts.{differ_text}
use Rattle.circ_status.specs.declared.status.Status.{Status}
use Rattle.circ_status.specs.declared.status.Status.TheVariants as status

-- a cause of an automaton's text, as the cause of the same name
abbrev pub cause_of : AutoCause → Cause
cause_of (auto.NotAscii p) = cause.NotAscii p
cause_of (auto.Control p) = cause.Control p
cause_of auto.Shape = cause.Shape
cause_of (auto.Twice n) = cause.Twice n
cause_of (auto.Limit n) = cause.Limit n

-- bytes are refused for their first cause, with the number of its statement
abbrev pub AutomatonRefusal : Refusal
AutomatonRefusal place c bytes = (a : AutoCause) × (FirstAutoCause bytes place a × (c ≡ cause_of a))

-- the bytes of the second file read as n, with the letters of the first automaton in the same order
abbrev pub ReadsOver : (m : Machine) → (bytes : List ℕ) → (n : Machine) → Type 0
ReadsOver m bytes n = ReadsAsAutomaton bytes n × (n.letters ≡ m.letters)

-- The bytes read as an automaton with other letters, or in another order. Their statement 2, the letters, has the cause Shape.
pub record HasOtherLetters (m : Machine) (place : ℕ) (c : Cause) (bytes : List ℕ) : Type 0 where
  pub n : Machine
  pub reads : ReadsAsAutomaton bytes n
  pub other : n.letters ≡ m.letters → ⊥
  pub place_is : place ≡ 2
  pub cause_is : c ≡ cause.Shape

-- why the bytes of the second file are refused
abbrev pub SecondRefusal : (m : Machine) → Refusal
SecondRefusal m place c bytes = AutomatonRefusal place c bytes ⊎ HasOtherLetters m place c bytes

-- Bytes read as x. Where the shelf tells, the named file holds them, and reads as this and nothing else.
pub record TakesAs (Reads : List ℕ → Machine → Type 0) (name : List ℕ) (m : Machine) (before : ShelfState) : Type 0 where
  pub bytes : AreBytes (λ bytes. Reads bytes m)
  pub reads : before.tells ≡ true → IsOnly m (λ n. Holds before.holds name (λ bytes. Reads bytes n))

-- the answer by what comparing gives: the same, or a word
abbrev pub compared_status : Option (List ℕ) → Status
compared_status None = status.Ok
compared_status (Some w) = status.Differ (length w)

-- the letters of a word
abbrev pub letters_of : Machine → List ℕ → List (List ℕ)
letters_of m w = map (λ x. unwrap_or (slice_get m.letters x) []) w

abbrev pub compared_text : Machine → Option (List ℕ) → List ℕ
compared_text m None = codes "same\n"
compared_text m (Some w) = differ_text (letters_of m w)

-- The outcome of `same`, with its text: the first file refuses the command; or this reads, and the second file refuses it; or both read, and the automata
-- are the same or differ in a shortest word.
pub data SameOutcome (held : Held) (first second : List ℕ) : Status → (text : List ℕ) → Type 0 where
  no_first : (s : Status) → RefusesFile held 1 first AutomatonRefusal s → SameOutcome held first second s (text_of_refusal statement_places s)
  no_second : (s : Status) (m : Machine) → Holds held first (λ bytes. ReadsAsAutomaton bytes m) → RefusesFile held 2 second (SecondRefusal m) s
      → SameOutcome held first second s (text_of_refusal statement_places s)
  compared : (m n : Machine) (o : Option (List ℕ)) → Holds held first (λ bytes. ReadsAsAutomaton bytes m)
      → Holds held second (λ bytes. ReadsOver m bytes n) → Compares m n o → SameOutcome held first second (compared_status o) (compared_text m o)

-- what comparing two automata gives has this status and text
pub record IsComparedIn (m n : Machine) (s : Status) (text : List ℕ) : Type 0 where
  pub word : Option (List ℕ)
  pub compares : Compares m n word
  pub status_is : s ≡ compared_status word
  pub text_is : text ≡ compared_text m word

-- The two files read, and what comparing the automata gives has this status and text.
pub record IsCompared (first second : List ℕ) (s : Status) (text : List ℕ) (before : ShelfState) : Type 0 where
  pub m : Machine
  pub n : Machine
  pub compared : IsComparedIn m n s text
  pub takes_first : TakesAs ReadsAsAutomaton first m before
  pub takes_second : TakesAs (ReadsOver m) second n before

-- Why it is refused: the first file is at fault; or it reads, and the second file is at fault.
pub data RefusesSame (first second : List ℕ) (before after : ShelfState) : Status → Type 0 where
  first_fault : (s : Status) → IsFileFault 1 first AutomatonRefusal before after s → RefusesSame first second before after s
  second_fault : (s : Status) (m : Machine) → TakesAs ReadsAsAutomaton first m before → IsFileFault 2 second (SecondRefusal m) before after s
      → RefusesSame first second before after s

-- The first of two files has the fact, by its number and name; or it reads as an automaton, and the second has the fact.
abbrev pub AtAutomaton : ShelfState → (first second : List ℕ) → (ℕ → List ℕ → Type 0) → Type 0
AtAutomaton before first second P = P 1 first ⊎ ((m : Machine) × (TakesAs ReadsAsAutomaton first m before × P 2 second))
