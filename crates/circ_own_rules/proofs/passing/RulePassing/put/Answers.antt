use Rattle.std.proofs.Common.{arith}
use Rattle.circ_join.specs.Sweeping.{plain_swept}
use Rattle.circ_join.proofs.Sweeps.{put_spent, new_hinders, whole_hinders}
use Rattle.circ_own_rules.specs.Using.{plain_due}
use Rattle.circ_own_rules.proofs.passing.RulePassing.put.Goals as goal

pub returns-then-budget-eq0-clause-exact : goal.returns-then-budget-eq0-clause-exact
returns-then-budget-eq0-clause-exact c =
    (put_spent (plain_swept c.args.swept.now) (plain_due c.args.due) c.args.budget.now (omega (arith, c.if-budget-eq0.true)), omega (arith, c.if-budget-eq0.true))

pub returns-in-Err-clause-exact : goal.returns-in-Err-clause-exact
returns-in-Err-clause-exact c =
    rw c.rewrite_fault.ensures
    (new_hinders (plain_swept c.args.swept.now) (plain_due c.args.due) c.args.budget.now (omega (arith, c.if-budget-eq0.false)) c.in-Err.fault c.in-Err.ensures)

pub returns-in-Err-put_at-clause-exact : goal.returns-in-Err-put_at-clause-exact
returns-in-Err-put_at-clause-exact c =
    rw c.rewrite_fault-in-Err-put_at.ensures
    (whole_hinders (plain_swept c.args.swept.now) (plain_due c.args.due) c.args.budget.now (omega (arith, c.if-budget-eq0.false)) c.in-Err-put_at.fault c.in-Ok.ensures.1
    (rw (c.as_slice.ensures, c.in-Ok.ensures.0) at c.in-Err-put_at.ensures))

pub put_at-requires : goal.put_at-requires
put_at-requires c = record { within = rw c.in-Ok.ensures.0 c.in-Ok.ensures.1 }
