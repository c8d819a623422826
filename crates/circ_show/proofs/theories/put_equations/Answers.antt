use Rattle.std.proofs.Common.{sym}
use Rattle.circ_show.specs.Lines.{equation_line}
use Rattle.circ_show.proofs.Steps.{list_step}
use Rattle.circ_show.proofs.theories.put_equations.Goals as goal

pub loop-n-preserved : goal.loop-n-preserved
loop-n-preserved c =
    list_step (equation_line c.args.theory.now.signature) c.args.theory.now.equations c.loop-n.n c.in-Some.equation.now _ _ _ (sym c.in-Some.ensures)
    c.in_ok-put_equation.ensures c.loop-n.invariant
