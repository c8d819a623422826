use Rattle.circ_spelling.proofs.Marked.{variables_step}
use Rattle.circ_spelling.proofs.marks.mark_variables.Goals as goal

pub loop-variable-preserved : goal.loop-variable-preserved
loop-variable-preserved c =
    let at = c.loop-variable in
    variables_step c.args.variables.now at.variable-index _ at.marks.items c.mark.new.marks.items c.loop-variable-test.true at.invariant c.mark.ensures.stay
    c.mark.ensures.here
