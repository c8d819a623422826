-- What a page is answered.
use Rattle.std.specs.Prelude.{◌≡◌, ◌≢◌, ◌++◌, ℕ, List, [], Option, Some, None, length, take, drop, codes, true}
use Rattle.std.specs.Str.{IsUtf8}
use Rattle.std.specs.Str.Lines.{lines as lines_of}
use Rattle.circ_outer.specs.Shelf.{ShelfState}
use Rattle.circ_outer.specs.Sink.{SinkState}
use Rattle.circ_status.specs.declared.status.Status.{Status}
use Rattle.circ_status.specs.Status.{number_of}
use Rattle.circ_top.specs.InMemory.{HoldsFiles, Appends}
use Rattle.circ_top.specs.Promises.{Promises}
use Rattle.circ_top.specs.Run.{Run}

-- what a file holds, and nothing where there is none
abbrev pub file_bytes : Option (List ℕ) → List ℕ
file_bytes (Some bytes) = bytes
file_bytes None = []

-- The shelf tells, and holds the three files that the page passed, and no other.
pub record HoldsPage (theory goals proof : List ℕ) (s : ShelfState) : Type 0 where
  pub tells : s.tells ≡ true
  pub theory_held : s.holds (codes "theory") ≡ Some theory
  pub goals_held : s.holds (codes "goals") ≡ Some goals
  pub proof_held : s.holds (codes "proof") ≡ Some proof
  pub no_other : (n : List ℕ) → n ≢ codes "theory" → n ≢ codes "goals" → n ≢ codes "proof" → s.holds n ≡ None

-- A run of the program with these words over the files of the page, from an empty sink: it keeps all that the program promises; and its answer is the outcome,
-- with its text and what it stores, or want of memory, where the files are there that the words name.
pub record RunsPage (words : List (List ℕ)) (theory goals proof : List ℕ) (answer : Status) (after : ShelfState) (end : SinkState) : Type 0 where
  pub run : Run
  pub words_are : run.words ≡ words
  pub after_is : run.after ≡ after
  pub end_is : run.end ≡ end
  pub held : HoldsPage theory goals proof run.before
  pub nothing : run.start.written ≡ []
  pub promises : Promises run answer
  pub outcome : HoldsFiles run.words run.before.holds → Appends run answer

-- As many of the bytes as there was room for were moved to the front of a buffer, and the count says how many there are.
pub record HandsOut (bytes room filled : List ℕ) (count : ℕ) : Type 0 where
  pub counted : count ≡ length bytes
  pub moved : filled ≡ take (length room) bytes ++ drop (length bytes) room

-- What comes of a question, with its number, its text and the proof that is held then: its words are no text; or memory ran out before the program ran; or the
-- program ran, with the words that stand one a line.
pub data ComesOfPage (words theory goals proof : List ℕ) : (number : ℕ) → (text stored : List ℕ) → Type 0 where
  no_words : ¬ (IsUtf8 words) → ComesOfPage words theory goals proof 3 [] []
  no_memory : ComesOfPage words theory goals proof 9 [] []
  ran : (answer : Status) (after : ShelfState) (end : SinkState) → RunsPage (lines_of words) theory goals proof answer after end
      → ComesOfPage words theory goals proof (number_of answer) end.written (file_bytes (after.holds (codes "proof")))

-- What a page is answered: the number of what comes, whose text and proof are handed out.
pub record AnswersPage (words theory goals proof : List ℕ) (number : ℕ)
    (text_room text : List ℕ) (text_count : ℕ) (proof_room stored : List ℕ) (proof_count : ℕ) : Type 0 where
  pub text_bytes : List ℕ
  pub proof_bytes : List ℕ
  pub comes : ComesOfPage words theory goals proof number text_bytes proof_bytes
  pub text_handed : HandsOut text_bytes text_room text text_count
  pub proof_handed : HandsOut proof_bytes proof_room stored proof_count
