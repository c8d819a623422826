use Rattle.std.proofs.Common.{arith}
use Rattle.circ_term.proofs.Within.{drop_read}
use Rattle.circ_tries.proofs.Untried.{no_conditions}
use Rattle.circ_tries.proofs.reducer.are_unconditional.Goals as goal

pub loop-rule-preserved : goal.loop-rule-preserved
loop-rule-preserved c =
    let read = drop_read c.args.rules.now c.loop-rule.rule-index c.rule-item.result c.loop-rule-test.true c.rule-item.is in
    let none = no_conditions c.rule-item.result.conds (omega (arith, c.len.ensures, c.if-len-ne0.false)) in
    λ h. c.loop-rule.invariant (rw read (none, h))
