use Rattle.std.proofs.Common.{sym}
use Rattle.circ_theory.specs.Theory.{declared}
use Rattle.circ_show.specs.Lines.{var_line}
use Rattle.circ_show.proofs.Steps.{list_step}
use Rattle.circ_show.proofs.theories.put_vars.Goals as goal

pub loop-n-preserved : goal.loop-n-preserved
loop-n-preserved c =
    list_step (var_line c.args.theory.now.signature) c.args.theory.now.variables c.loop-n.n (declared c.in-Some.name.now c.in-Some.sort) _ _ _
    (sym c.in-Some.ensures) c.in_ok-put_var.ensures c.loop-n.invariant
