use Rattle.std.proofs.Common.{◌++◌, ◌∙◌, ◌∷◌, map, ap}
use Rattle.std.proofs.lemmas.Result.{on_ok_weaker}
use Rattle.circ_proof.specs.PlainProof.{plain_names, plain_steps}
use Rattle.circ_line.specs.Line.{done_line}
use Rattle.circ_grammar.specs.Grammar.{lines_of, goal_lines, step_lines}
use Rattle.circ_grammar.specs.FirstBad.{file_text}
use Rattle.circ_proof_text.specs.ProofText.{without_done}
use Rattle.circ_file.specs.Writing.{lines_of_step}
use Rattle.circ_file.proofs.Written.{ended_lines}
use Rattle.circ_file.proofs.encoding.put_block.Goals as goal

pub put_steps-requires : goal.put_steps-requires
put_steps-requires c = rw c.as_slice-2.ensures.value (c.requires.0, c.requires.1.steps)

pub returns : goal.returns
returns c =
    let block = c.args.block.now in
    let steps = plain_steps block.steps.items in
    let mid = c.put_goals.new.out.items in
    on_ok_weaker c.put_steps.result
    (λ w later.
    w later
    ∙ ap (λ ss. mid ++ file_text (lines_of lines_of_step (plain_steps ss) later)) c.as_slice-2.ensures.value
    ∙ ap (λ ls. mid ++ file_text ls) (ended_lines steps c.requires.1.ended later)
    ∙ c.in_ok-put_goals.ensures (lines_of step_lines (without_done steps) (done_line ∷ later))
    ∙ ap (λ ns. c.put_line.new.out.items ++ file_text (lines_of goal_lines (map plain_names ns) (lines_of step_lines (without_done steps) (done_line ∷ later))))
    c.as_slice.ensures.value
    ∙ c.in_ok-put_line.ensures (lines_of goal_lines (map plain_names block.names.items) (lines_of step_lines (without_done steps) (done_line ∷ later))))
    c.put_steps.ensures
