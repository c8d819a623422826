use Rattle.std.proofs.Common.{◌++◌, ◌∙◌, ◌∷◌, ap}
use Rattle.std.proofs.lemmas.Result.{on_ok_weaker}
use Rattle.circ_line.specs.Line.{table_line}
use Rattle.circ_grammar.specs.FirstBad.{file_text}
use Rattle.circ_file.proofs.Numbered.{entry_line, entry_args_have}
use Rattle.circ_file.proofs.numbering.Numbering.put.Goals as goal

pub numbers_of-requires : goal.numbers_of-requires
numbers_of-requires c =
    let app = c.in-Application in
    (c.requires.0, c.requires.1, entry_args_have c.requires.0 app.op app.sort app.args.now c.args.term.now app.ensures.value c.requires.2)

pub returns-in_ok-args-in-Application : goal.returns-in_ok-args-in-Application
returns-in_ok-args-in-Application c =
    let app = c.in-Application in
    let t = c.args.term.now in
    on_ok_weaker c.put_lent_line.result
    (λ w table is e.
    let numbers = c.in_ok-args-in-Application.ensures table is (entry_args_have table app.op app.sort app.args.now t app.ensures.value e) in
    let line = entry_line table app.op app.sort app.args.now t c.as_slice-args.result.now app.ensures.value (c.as_slice-args.ensures ∙ numbers) in
    λ later. w later ∙ ap (λ l. c.args.out.now.items ++ file_text (table_line l ∷ later)) line)
    c.put_lent_line.ensures
