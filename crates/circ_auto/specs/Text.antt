-- The text of an automaton (`ReadsAsAutomaton`), and why bytes are none (`FirstAutoCause`).
use Rattle.std.specs.Prelude.{◌≡◌, ℕ, ◌<◌, ◌+◌, zero, suc, List, [], ◌∷◌, ◌++◌, Bool, true, false, length, map, take, drop, codes, decimal, get_or, nat_lt, nat_eq, if◌then◌else◌, Option, Some, None, Result, Ok, Err}
use Rattle.std.specs.List.{AllByRecursion, list_any}
use Rattle.circ_lexer.specs.declared.fault.LexFault.{LexFault}
use Rattle.circ_lexer.specs.declared.fault.LexFault.TheVariants as lex
use Rattle.circ_lexer.specs.Cuts.{IsFirstBad}
use Rattle.circ_lexer.specs.TokenList.{AreTokens}
use Rattle.circ_statement.specs.Words.{Word, is_name, are_names}
use Rattle.circ_auto.specs.declared.fault.AutoCause.{AutoCause}
use Rattle.circ_auto.specs.declared.fault.AutoCause.TheVariants as cause
use Rattle.circ_auto.specs.declared.fault.AutoFault.{AutoFault}
use Rattle.circ_auto.specs.declared.fault.AutoFault.TheVariants as fault
use Rattle.circ_auto.specs.Machine.{Machine, states, IsMachine}
use Rattle.circ_auto.specs.Parts.{Part, automaton_of}

-- the words of so many rows, from that of the state s on, with k targets a row, and those behind them
abbrev pub row_words : (k : ℕ) → (rows s : ℕ) → (targets : List ℕ) → (behind : List Word) → List Word
row_words k zero s ts behind = behind
row_words k (suc rows) s ts behind =
    codes "from" ∷ decimal s ∷ map decimal (take k ts) ++ codes "." ∷ row_words k rows (s + 1) (drop k ts) behind

-- the words of an automaton with this name, whose accepting states are listed so
abbrev pub automaton_words : (name : Word) (accepted : List ℕ) → Machine → List Word
automaton_words name accepted m =
    codes "automaton" ∷ name ∷ codes "is"
    ∷ codes "letters" ∷ m.letters ++ (codes "."
    ∷ codes "states" ∷ decimal (states m) ∷ codes "."
    ∷ codes "start" ∷ decimal m.start ∷ codes "."
    ∷ (codes "accept" ∷ map decimal accepted ++ (codes "."
    ∷ row_words (length m.letters) (states m) 0 m.targets (codes "endautomaton" ∷ []))))

-- These words are a text of the automaton. Its accepting states may be listed in any order, and more than once.
pub record IsTextOf (words : List Word) (m : Machine) : Type 0 where
  pub name : Word
  pub accepted : List ℕ
  pub text : words ≡ automaton_words name accepted m
  pub is_name : is_name name ≡ true
  pub are_names : are_names m.letters ≡ true
  pub are_states : AllByRecursion (λ s. s < states m) accepted
  pub accepts : (s : ℕ) → s < states m → get_or m.accepting s false ≡ list_any (λ t. nat_eq t s) accepted
  pub is_machine : IsMachine m

-- The bytes read as the automaton.
pub record ReadsAsAutomaton (bytes : List ℕ) (m : Machine) : Type 0 where
  pub words : List Word
  pub are_words : AreTokens bytes words
  pub text : IsTextOf words m

-- the cause that a bad byte is
abbrev pub byte_cause : LexFault → AutoCause
byte_cause (lex.NotAscii p) = cause.NotAscii p
byte_cause (lex.Control p) = cause.Control p
byte_cause lex.Memory = cause.Shape

-- The first cause in the bytes is this one. The head is statement 1, the others are counted on, the end has the next number, and a bad byte the number 0.
pub data FirstAutoCause (bytes : List ℕ) : (number : ℕ) → AutoCause → Type 0 where
  at_a_byte : (f : LexFault) → IsFirstBad bytes f → FirstAutoCause bytes 0 (byte_cause f)
  in_a_statement : (words : List Word) (n : ℕ) (c : AutoCause) → AreTokens bytes words → automaton_of words ≡ Err (n, c)
      → FirstAutoCause bytes n c

-- what reading an automaton answers
abbrev pub GivesAutomaton : Result Machine AutoFault → List ℕ → Type 0
GivesAutomaton (Ok m) bytes = ReadsAsAutomaton bytes m
GivesAutomaton (Err (fault.Statement n c)) bytes = FirstAutoCause bytes n c
GivesAutomaton (Err fault.Memory) bytes = Unit {0}
