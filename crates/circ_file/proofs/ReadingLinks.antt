-- A line that begins with a side is read as a link, one that begins with an application's letter as an operator at terms.
use Rattle.std.specs.Prelude.{◌≡◌, ◌++◌, ℕ, List, true, Some, None, Result, Ok, Err, IfOk, codes, refl}
use Rattle.std.specs.Global.{Vec}
use Rattle.std.proofs.Common.{inl, inr}
use Rattle.circ_proof.specs.Plain.{LinkOf}
use Rattle.circ_line.specs.Line.{Line, table_line, Application_line, left_line, right_line}
use Rattle.circ_line.specs.Front.{rest_after, then_whole}
use Rattle.circ_line.specs.Read.{field_at, numbers_of, link_of}
use Rattle.circ_line.specs.Plain.{ReadsLine}
use Rattle.circ_line.proofs.OneText.{reads_left, reads_right, reads_application}
use Rattle.circ_grammar.specs.Grammar.{is_bare}
use Rattle.circ_file.specs.Lines.{Handles, ReadsNext}
use Rattle.circ_file.specs.declared.taken.Taken.{Taken}
use Rattle.circ_file.specs.declared.taken.Taken.TheVariants.{Yes, Line as Refused, Limit}
use Rattle.circ_file.specs.declared.lines.LineReader.{LineReader}
use Rattle.circ_file.proofs.Taking.{bare_in_range}

read_next : (t : Taken) (w : List ℕ) (r s : LineReader) (bytes : List ℕ) (l : Line) → ReadsLine bytes (Some l) → Handles t w r l s → ReadsNext t w r bytes s
read_next Yes w r s bytes l read h = (l, read.0, read.1, h)
read_next Refused w r s bytes l read h = inr (l, read.0, read.1, h)
read_next Limit w r s bytes l read h = (l, read.0, read.1, h)

pub left_bare : (rest : List ℕ) (link : LinkOf ℕ) → Some link ≡ link_of rest → is_bare link ≡ true
left_bare rest link same = bare_in_range link (reads_left (codes "left " ++ rest) rest (Some link) refl same).1

pub right_bare : (rest : List ℕ) (link : LinkOf ℕ) → Some link ≡ link_of rest → is_bare link ≡ true
right_bare rest link same = bare_in_range link (reads_right (codes "right " ++ rest) rest (Some link) refl refl same).1

module _ {E : Type 0} (r s : LineReader) (rest : List ℕ) where
  pub left_read : (link : LinkOf ℕ) → Some link ≡ link_of rest → (result : Result Taken E) → IfOk result (λ t. (w : List ℕ) → Handles t w r (left_line link) s)
      → IfOk result (λ t. (bytes w : List ℕ) → Some rest ≡ rest_after (codes "left ") bytes → ReadsNext t w r bytes s)
  left_read link same (Ok t) h = λ bytes w e. read_next t w r s bytes (left_line link) (reads_left bytes rest (Some link) e same) (h w)
  left_read link same (Err e) h = h

  pub right_read : (link : LinkOf ℕ) → Some link ≡ link_of rest → (result : Result Taken E)
      → IfOk result (λ t. (w : List ℕ) → Handles t w r (right_line link) s)
      → IfOk result (λ t. (bytes w : List ℕ) → None ≡ rest_after (codes "left ") bytes → Some rest ≡ rest_after (codes "right ") bytes → ReadsNext t w r bytes s)
  right_read link same (Ok t) h = λ bytes w d e. read_next t w r s bytes (right_line link) (reads_right bytes rest (Some link) d e same) (h w)
  right_read link same (Err e) h = h

pub left_unread : (r s : LineReader) (rest : List ℕ) → None ≡ link_of rest → (bytes w : List ℕ) → Some rest ≡ rest_after (codes "left ") bytes
    → ReadsNext Refused w r bytes s
left_unread r s rest same bytes w e = inl (reads_left bytes rest None e same)

pub right_unread : (r s : LineReader) (rest : List ℕ) → None ≡ link_of rest → (bytes w : List ℕ) → None ≡ rest_after (codes "left ") bytes
    → Some rest ≡ rest_after (codes "right ") bytes → ReadsNext Refused w r bytes s
right_unread r s rest same bytes w d e = inl (reads_right bytes rest None d e same)

-- What becomes of a line does not depend on the arguments of the last application.
other_args : (t : Taken) (w : List ℕ) (r s : LineReader) (args : Vec ℕ) (l : Line) → Handles t w (record r { args = args }) l s → Handles t w r l s
other_args Yes w r s args l h = record {
  next = h.next;
  passes = h.passes;
  within = h.within;
  seen = h.seen;
  queue = h.queue;
  reader = h.reader;
}
other_args Refused w r s args l h = h
other_args Limit w r s args l h = h

pub application_read : {E : Type 0} (r s : LineReader) (rest : List ℕ) (op : ℕ) (args : Vec ℕ) → Some (op, args.items) ≡ then_whole field_at numbers_of rest
    → (result : Result Taken E) → IfOk result (λ t. (w : List ℕ) → Handles t w (record r { args = args }) (table_line (Application_line op args.items)) s)
    → IfOk result (λ t. (bytes w : List ℕ) → None ≡ rest_after (codes "left ") bytes → None ≡ rest_after (codes "right ") bytes
    → Some rest ≡ rest_after (codes "a") bytes → ReadsNext t w r bytes s)
application_read r s rest op args same (Ok t) h = λ bytes w d e f.
    let l = table_line (Application_line op args.items) in
    read_next t w r s bytes l (reads_application bytes rest (Some (op, args.items)) d e f same) (other_args t w r s args l (h w))
application_read r s rest op args same (Err e) h = h

pub application_unread : (r s : LineReader) (rest : List ℕ) → None ≡ then_whole field_at numbers_of rest → (bytes w : List ℕ)
    → None ≡ rest_after (codes "left ") bytes → None ≡ rest_after (codes "right ") bytes → Some rest ≡ rest_after (codes "a") bytes
    → ReadsNext Refused w r bytes s
application_unread r s rest same bytes w d e f = inl (reads_application bytes rest None d e f same)
