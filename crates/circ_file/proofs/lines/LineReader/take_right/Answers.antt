use Rattle.std.proofs.Common.{◌≡◌, ◌∙◌, true, refl, ap, sym, subst}
use Rattle.circ_proof.specs.Plain.{plain_link}
use Rattle.circ_line.specs.Line.{right_line}
use Rattle.circ_proof_text.specs.Checks.{is_in_table, passes_at}
use Rattle.circ_file.specs.Lines.{seen_of, Handles}
use Rattle.circ_file.specs.declared.lines.LineReader.{LineReader}
use Rattle.circ_file.specs.declared.taken.Taken.{Taken}
use Rattle.circ_file.proofs.Taking.{advanced, link_handled}
use Rattle.circ_file.proofs.lines.LineReader.take_right.Goals as goal

pub returns-clause-taken : goal.returns-clause-taken
returns-clause-taken c w =
    let old = c.args.self.now in
    let l = right_line (plain_link c.args.link) in
    let new : LineReader = record old { machine = c.on_right.new.self } in
    let passes : passes_at old.theory.now (seen_of w old) l ≡ true =
    ap (λ n. is_in_table n (plain_link c.args.link)) (sym c.len.ensures) ∙ sym c.if-not-is_in_table.ensures in
    let moved = advanced c.in_ok-is_next.is_next old l c.on_right.new.self c.requires.reader tt c.in_ok-is_next.ensures in
    let P : Taken → Type 0 = λ t. Handles t w old l new in
    subst P (sym c.taken_where.ensures)
    (link_handled w old new l c.requires.reader tt refl passes c.requires.reader.due refl c.in_ok-is_next.is_next c.is_long-is_over.result (sym c.is_long-is_over.ensures) moved)
