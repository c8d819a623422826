-- A reader of a proof's text, which comes in pieces.
use Rattle.std.specs.Prelude.{◌≡◌, ◌≢◌, ℕ, ◌+◌, ◌<◌, ◌^◌, List, [], ◌∷◌, ◌++◌, length, map, Option, Some, None, Result, Ok, Err}
use Rattle.circ_theory.specs.Theory.{Theory}
use Rattle.circ_line.specs.Line.{Line as FileLine}
use Rattle.circ_line.specs.Plain.{NoFeed}
use Rattle.circ_grammar.specs.FirstBad.{file_text, Line_fault, Limit_fault}
use Rattle.circ_grammar.specs.Parts.{shown_by}
use Rattle.circ_grammar.specs.Parts as grammar
use Rattle.circ_proof.specs.Proof.{Proof}
use Rattle.circ_proof_text.specs.Parts.{Part, part_with, parts_of}
use Rattle.circ_proof_text.specs.ProofText.{numbers_of, ReadsAsProof, FirstCause}
use Rattle.circ_proof_text.specs.Reading.{Reading, StandsFor}
use Rattle.circ_file.specs.View.{now_of, queue_of, plain_part}
use Rattle.circ_file.specs.Lines.{IsReader, seen_of}
use Rattle.circ_file.specs.declared.fault.FileFault.{FileFault}
use Rattle.circ_file.specs.declared.fault.FileFault.TheVariants.{Line, Limit, Memory}
use Rattle.circ_table.specs.declared.part.Part.{Part as CodePart}
use Rattle.circ_file.specs.declared.reader.FileReader.{FileReader}

-- the bytes up to the first line feed, and those after it
pub record IsCut (bytes line after : List ℕ) : Type 0 where
  pub no_feed : NoFeed line
  pub whole : bytes ≡ line ++ (10 ∷ after)

-- the fault is the first cause of the bytes, or memory ran out
abbrev pub FaultIs : Theory → List ℕ → FileFault → Type 0
FaultIs th bytes (Line n) = FirstCause th bytes (Line_fault n)
FaultIs th bytes (Limit n) = FirstCause th bytes (Limit_fault n)
FaultIs th bytes Memory = Unit {0}

-- what is kept, where the open splits want these numbers of whys
abbrev pub reading_of : (wanted : List ℕ) → FileReader → Reading
reading_of wanted f = record {
  lines = f.lines;
  rest = f.rest.items;
  under_way = now_of f.reader.machine;
  seen = seen_of wanted f.reader;
  waiting = queue_of f.reader.machine;
}

-- how many lines with their line feeds it was fed, the fault it met, and the parts that are whole and not handed out
abbrev pub whole_lines_in : FileReader → ℕ
whole_lines_in f = f.lines

abbrev pub fault_of : FileReader → Option FileFault
fault_of f = f.fault

-- the version that the first line has named
abbrev pub version_in : FileReader → ℕ
version_in f = f.reader.counts.version

abbrev pub waiting_in : FileReader → List Part
waiting_in f = queue_of f.reader.machine

-- what a reader keeps true as long as it has no fault
pub record IsSound (f : FileReader) : Type 0 where
  pub room : f.lines + 1 < 2 ^ 64
  pub reader : f.fault ≡ None → IsReader f.reader

-- The reader was fed the bytes x without a fault, and has handed out these parts.
pub record Stands (th : Theory) (x : List ℕ) (handed : List Part) (f : FileReader) : Type 0 where
  pub theory : f.reader.theory.now ≡ th
  pub wanted : List ℕ
  pub stands : StandsFor th x handed (reading_of wanted f)
  pub fault : f.fault ≡ None

-- the fault is that of the line of this number
abbrev pub IsOfLine : FileFault → ℕ → Type 0
IsOfLine (Line n) m = n ≡ m
IsOfLine (Limit n) m = n ≡ m
IsOfLine Memory m = Unit {0}

-- A whole line of these bytes has the fault, in every text that goes on from it.
pub record IsLineFault (th : Theory) (bytes : List ℕ) (e : FileFault) : Type 0 where
  pub before : List FileLine
  pub line : List ℕ
  pub after : List ℕ
  pub no_feed : NoFeed line
  pub whole : bytes ≡ (file_text before ++ (line ++ (10 ∷ []))) ++ after
  pub number : IsOfLine e (length before + 1)
  pub fault : (later : List ℕ) → FaultIs th ((file_text before ++ (line ++ (10 ∷ []))) ++ later) e

-- The fault is that of a whole line of the bytes, or memory ran out.
abbrev pub IsShown : Theory → List ℕ → FileFault → Type 0
IsShown th bytes Memory = Unit {0}
IsShown th bytes e = IsLineFault th bytes e

-- It was fed the piece too; or a whole line is at fault, and the fault is that of every text that goes on so.
abbrev pub FeedsLines : Result (Unit {0}) FileFault → Theory → (x piece : List ℕ) → List Part → FileReader → Type 0
FeedsLines (Ok _) th x piece handed f = Stands th (x ++ piece) handed f
FeedsLines (Err e) th x piece handed f = ((later : List ℕ) → FaultIs th ((x ++ piece) ++ later) e) × IsShown th (x ++ piece) e

-- The same, and the fault is kept.
abbrev pub Feeds : Result (Unit {0}) FileFault → Theory → (x piece : List ℕ) → List Part → FileReader → Type 0
Feeds (Ok _) th x piece handed f = Stands th (x ++ piece) handed f
Feeds (Err e) th x piece handed f = (f.fault ≡ Some e) × ((later : List ℕ) → FaultIs th ((x ++ piece) ++ later) e) × IsShown th (x ++ piece) e

-- The same of the rest of a line and its line feed.
abbrev pub EndsLine : Result (Unit {0}) FileFault → Theory → (x more_bytes : List ℕ) → List Part → FileReader → Type 0
EndsLine (Ok _) th x bytes handed f = Stands th (x ++ (bytes ++ (10 ∷ []))) handed f
EndsLine (Err e) th x bytes handed f =
    ((later : List ℕ) → FaultIs th ((x ++ (bytes ++ (10 ∷ []))) ++ later) e) × IsShown th (x ++ (bytes ++ (10 ∷ []))) e

-- the parts handed out, with the next
abbrev pub handed_with : List Part → Option CodePart → List Part
handed_with handed None = handed
handed_with handed (Some part) = handed ++ plain_part part ∷ []

-- the parts that so many lines of a proof's text show
abbrev pub shown_parts : Proof → (lines : ℕ) → List Part
shown_parts p n = map (part_with p.table) (shown_by n (grammar.parts_of (numbers_of p)))

-- The parts handed out are the first of those that so many lines show, and all of them where none is handed out now.
pub record AreShown (p : Proof) (lines : ℕ) (handed : List Part) (o : Option CodePart) : Type 0 where
  pub rest : List Part
  pub shown : shown_parts p lines ≡ handed_with handed o ++ rest
  pub all : o ≡ None → rest ≡ []

-- the next part is handed out, or none is whole
abbrev pub Hands : Option CodePart → Theory → List ℕ → List Part → FileReader → Type 0
Hands None th x handed f = (waiting_in f ≡ []) × Stands th x handed f
Hands (Some part) th x handed f = Stands th x (handed ++ plain_part part ∷ []) f

-- The text is that of a proof of this version, of which the parts handed out and those that are whole are all; or this is its fault.
abbrev pub EndsText : Result (Unit {0}) FileFault → Theory → List ℕ → List Part → FileReader → Type 0
EndsText (Ok _) th x handed f = (p : Proof) × ReadsAsProof th x p × (handed ++ waiting_in f ≡ parts_of p) × (p.version ≡ version_in f)
EndsText (Err e) th x handed f = FaultIs th x e × (e ≢ Memory)
