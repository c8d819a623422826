use Rattle.circ_show.specs.Lines.{derivative_line}
use Rattle.circ_show.proofs.SortMarks.{by_body}
use Rattle.circ_show.proofs.Steps.{list_step}
use Rattle.circ_show.proofs.theories.put_derivatives.Goals as goal

pub loop-n-preserved : goal.loop-n-preserved
loop-n-preserved c =
    let d = by_body c.args.theory.now.derivatives c.loop-n.n c.in-Some.term.now c.in-Some.ensures in
    list_step (λ x. derivative_line c.args.theory.now.signature x.body) c.args.theory.now.derivatives c.loop-n.n d.0 _ _ _ d.1
    (rw d.2 c.in_ok-put_derivative.ensures) c.loop-n.invariant
