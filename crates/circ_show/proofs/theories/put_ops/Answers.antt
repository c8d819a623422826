use Rattle.std.proofs.Common.{sym}
use Rattle.circ_theory.specs.Operators.{operator_of}
use Rattle.circ_show.specs.Lines.{op_line}
use Rattle.circ_show.proofs.Steps.{list_step}
use Rattle.circ_show.proofs.theories.put_ops.Goals as goal

pub loop-n-preserved : goal.loop-n-preserved
loop-n-preserved c =
    list_step (op_line c.args.theory.now.signature) c.args.theory.now.signature.ops c.loop-n.n (operator_of c.in-Some.decl.now) _ _ _ (sym c.in-Some.ensures)
    c.in_ok-put_op.ensures c.loop-n.invariant
