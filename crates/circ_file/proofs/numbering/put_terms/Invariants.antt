use Rattle.std.proofs.Common.{◌≡◌, ◌++◌, [], take, drop, List}
use Rattle.circ_proof.specs.Proof.{AreEntries}
use Rattle.circ_line.specs.Line.{Line}
use Rattle.circ_grammar.specs.Grammar.{lines_of, table_lines}
use Rattle.circ_grammar.specs.FirstBad.{file_text}
use Rattle.circ_proof_text.specs.TableText.{entries_of}
use Rattle.circ_file.specs.Numbering.{IsNumbering}
use Rattle.circ_file.proofs.numbering.put_terms.Given as goal

abbrev pub invariant-loop-term : goal.invariant-loop-term
invariant-loop-term l =
    let before = take l.term-index l.table in
    let rest = drop l.term-index l.table in
    record {
      numbering : IsNumbering before l.numbering;
      entries : AreEntries before rest;
      writes : (later : List Line) → l.out.items ++ file_text (lines_of table_lines (entries_of before rest) later)
          ≡ l.fn.out.items ++ file_text (lines_of table_lines (entries_of [] l.table) later);
    }
