-- A piece of the text, line by line.
use Rattle.std.specs.Prelude.{◌≡◌, ℕ, List, [], ◌∷◌, ◌++◌, refl}
use Rattle.std.proofs.Common.{sym, ◌∙◌, ap, subst, append_assoc}
use Rattle.std.proofs.lemmas.List.{append-nil}
use Rattle.circ_theory.specs.Theory.{Theory}
use Rattle.circ_grammar.specs.FirstBad.{file_text}
use Rattle.circ_proof_text.specs.Parts.{Part}
use Rattle.circ_file.specs.Feeding.{FaultIs, IsLineFault, IsShown, Stands}
use Rattle.circ_file.specs.declared.fault.FileFault.TheVariants.{Line, Limit, Memory}
use Rattle.circ_file.specs.declared.fault.FileFault.{FileFault}
use Rattle.circ_file.specs.declared.reader.FileReader.{FileReader}

-- The first bytes of the piece were read, and the rest is left.
pub record IsRead (f : FileReader) (piece rest : List ℕ) (g : FileReader) : Type 0 where
  pub front : List ℕ
  pub cut : piece ≡ front ++ rest
  pub stands : (th : Theory) (x : List ℕ) (handed : List Part) → Stands th x handed f → Stands th (x ++ front) handed g

pub none_read : (f : FileReader) (piece : List ℕ) → IsRead f piece piece f
none_read f piece = record {
  front = [];
  cut = refl;
  stands = λ th x handed s. let P : List ℕ → Type 0 = λ y. Stands th y handed f in subst P (sym (append-nil x)) s;
}

abbrev pub ended_line : List ℕ → List ℕ
ended_line line = line ++ (10 ∷ [])

-- with one line more
pub line_read : (f g h : FileReader) (piece rest line after : List ℕ) → (r : IsRead f piece rest g) → rest ≡ line ++ (10 ∷ after)
    → ((th : Theory) (x : List ℕ) (handed : List Part) → Stands th x handed g → Stands th (x ++ ended_line line) handed h) → IsRead f piece after h
line_read f g h piece rest line after r e next = record {
  front = r.front ++ ended_line line;
  cut = r.cut ∙ ap (λ y. r.front ++ y) (e ∙ sym (append_assoc line (10 ∷ []) after)) ∙ sym (append_assoc r.front (ended_line line) after);
  stands = λ th x handed s.
      let P : List ℕ → Type 0 = λ y. Stands th y handed h in
      subst P (append_assoc x r.front (ended_line line)) (next th (x ++ r.front) handed (r.stands th x handed s));
}

-- A fault of a line is the fault of what goes on after the piece.
pub line_fault : (th : Theory) (x piece front rest line after later : List ℕ) (e : FileFault) → piece ≡ front ++ rest → rest ≡ line ++ (10 ∷ after)
    → FaultIs th (((x ++ front) ++ ended_line line) ++ (after ++ later)) e → FaultIs th ((x ++ piece) ++ later) e
line_fault th x piece front rest line after later e c d h =
    let P : List ℕ → Type 0 = λ y. FaultIs th y e in
    let whole : piece ≡ front ++ (ended_line line ++ after) = c ∙ ap (λ y. front ++ y) (d ∙ sym (append_assoc line (10 ∷ []) after)) in
    let same : ((x ++ front) ++ ended_line line) ++ (after ++ later) ≡ (x ++ piece) ++ later
    = sym (append_assoc ((x ++ front) ++ ended_line line) after later)
    ∙ ap (λ y. y ++ later) (append_assoc (x ++ front) (ended_line line) after ∙ append_assoc x front (ended_line line ++ after) ∙ ap (λ y. x ++ y) (sym whole)) in
    subst P same h

-- What a whole line shows, it shows with more bytes after it.

fault_in : (th : Theory) (bytes after : List ℕ) (e : FileFault) → IsLineFault th bytes e → IsLineFault th (bytes ++ after) e
fault_in th bytes after e s = record {
  before = s.before;
  line = s.line;
  after = s.after ++ after;
  no_feed = s.no_feed;
  whole = ap (λ y. y ++ after) s.whole ∙ append_assoc (file_text s.before ++ ended_line s.line) s.after after;
  number = s.number;
  fault = s.fault;
}

shown_in : (th : Theory) (bytes after : List ℕ) (e : FileFault) → IsShown th bytes e → IsShown th (bytes ++ after) e
shown_in th bytes after Memory s = tt
shown_in th bytes after (Line n) s = fault_in th bytes after (Line n) s
shown_in th bytes after (Limit n) s = fault_in th bytes after (Limit n) s

-- and so in the whole piece
pub line_shown : (th : Theory) (x piece front rest line after : List ℕ) (e : FileFault) → piece ≡ front ++ rest → rest ≡ line ++ (10 ∷ after)
    → IsShown th ((x ++ front) ++ ended_line line) e → IsShown th (x ++ piece) e
line_shown th x piece front rest line after e c d s =
    let P : List ℕ → Type 0 = λ y. IsShown th y e in
    let whole : piece ≡ front ++ (ended_line line ++ after) = c ∙ ap (λ y. front ++ y) (d ∙ sym (append_assoc line (10 ∷ []) after)) in
    let same : ((x ++ front) ++ ended_line line) ++ after ≡ x ++ piece
    = append_assoc (x ++ front) (ended_line line) after ∙ append_assoc x front (ended_line line ++ after) ∙ ap (λ y. x ++ y) (sym whole) in
    subst P same (shown_in th ((x ++ front) ++ ended_line line) after e s)

-- what is left has no line feed, and all was read then
pub all_read : (f g h : FileReader) (piece rest : List ℕ) → IsRead f piece rest g
    → ((th : Theory) (x : List ℕ) (handed : List Part) → Stands th x handed g → Stands th (x ++ rest) handed h)
    → (th : Theory) (x : List ℕ) (handed : List Part) → Stands th x handed f → Stands th (x ++ piece) handed h
all_read f g h piece rest r next th x handed s =
    let P : List ℕ → Type 0 = λ y. Stands th y handed h in
    subst P (append_assoc x r.front rest ∙ ap (λ y. x ++ y) (sym r.cut)) (next th (x ++ r.front) handed (r.stands th x handed s))
