use Rattle.std.proofs.Common.{◌+◌, ◌++◌, ◌∷◌, [], ◌∙◌, List, length, length-append, take, drop, ap, sym, subst, arith}
use Rattle.std.proofs.lemmas.List.{take-append-drop, drop_all}
use Rattle.circ_term.specs.Tree.{Tree}
use Rattle.circ_term.proofs.Within.{drop_read}
use Rattle.circ_proof.specs.Proof.{AreEntries}
use Rattle.circ_grammar.specs.Grammar.{lines_of, table_lines}
use Rattle.circ_grammar.specs.FirstBad.{file_text}
use Rattle.circ_proof_text.specs.TableText.{entries_of}
use Rattle.circ_file.specs.Numbering.{IsNumbering}
use Rattle.circ_file.proofs.Numbered.{take_read}
use Rattle.circ_file.proofs.numbering.put_terms.Goals as goal

pub put-requires : goal.put-requires
put-requires c =
    let at = c.loop-term in
    let table = c.args.table.now in
    let P : List Tree → Type 0 = AreEntries (take at.term-index table) in
    let entries = subst P (drop_read table at.term-index c.term-item.result c.loop-term-test.true c.term-item.is) at.invariant.entries in
    (take at.term-index table, at.invariant.numbering, entries.0)

pub enter-requires : goal.enter-requires
enter-requires c =
    let at = c.loop-term in
    let table = c.args.table.now in
    let next = drop_read table at.term-index c.term-item.result c.loop-term-test.true c.term-item.is in
    let before = take at.term-index table in
    let P : List Tree → Type 0 = AreEntries before in
    let entries = subst P next at.invariant.entries in
    let short = ap length (take-append-drop at.term-index table) in
    (before, at.invariant.numbering, entries.0, omega (arith, short, length-append before (drop at.term-index table), ap length next, c.requires.short))

pub loop-term-preserved : goal.loop-term-preserved
loop-term-preserved c =
    let at = c.loop-term in
    let table = c.args.table.now in
    let i = at.term-index in
    let t = c.term-item.result in
    let next = drop_read table i t c.loop-term-test.true c.term-item.is in
    let longer = take_read table i t c.loop-term-test.true c.term-item.is in
    let before = take i table in
    let P : List Tree → Type 0 = AreEntries before in
    let Q : List Tree → Type 0 = λ ts. AreEntries ts (drop (i + 1) table) in
    let R : List Tree → Type 0 = λ ts. IsNumbering ts c.enter.new.self in
    let entries = subst P next at.invariant.entries in
    let put = c.in_ok-put.ensures before at.invariant.numbering entries.0 in
    let short = ap length (take-append-drop i table) in
    record {
      numbering = subst R (sym longer)
          (c.in_ok-enter.ensures before at.invariant.numbering entries.0 (omega (arith, short, length-append before (drop i table), ap length next, c.requires.short)));
      entries = subst Q (sym longer) entries.1;
      writes = λ later.
          ap (λ ts. c.put.new.out.items ++ file_text (lines_of table_lines (entries_of ts (drop (i + 1) table)) later)) longer
          ∙ put (lines_of table_lines (entries_of (before ++ t ∷ []) (drop (i + 1) table)) later)
          ∙ ap (λ us. at.out.items ++ file_text (lines_of table_lines (entries_of before us) later)) (sym next)
          ∙ at.invariant.writes later;
    }

pub returns : goal.returns
returns c later =
    let at = c.loop-term in
    let table = c.args.table.now in
    let end = drop_all at.term-index table c.loop-term-test.false in
    ap (λ us. at.out.items ++ file_text (lines_of table_lines (entries_of (take at.term-index table) us) later)) (sym end)
    ∙ at.invariant.writes later
