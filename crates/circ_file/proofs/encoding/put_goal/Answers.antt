use Rattle.std.proofs.Common.{◌++◌, ◌∙◌, ap}
use Rattle.std.proofs.lemmas.Result.{on_ok_weaker}
use Rattle.circ_grammar.specs.Grammar.{lines_of, given_lines}
use Rattle.circ_grammar.specs.FirstBad.{file_text}
use Rattle.circ_file.proofs.encoding.put_goal.Goals as goal

pub returns : goal.returns
returns c =
    on_ok_weaker c.put_givens.result
    (λ w later.
    w later
    ∙ ap (λ ps. c.put_made_line.new.out.items ++ file_text (lines_of given_lines ps later)) c.as_slice.ensures.value
    ∙ c.in_ok-put_made_line.ensures (lines_of given_lines c.args.goal.now.conds.items later))
    c.put_givens.ensures
