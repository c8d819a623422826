use Rattle.std.proofs.Common.{◌-◌}
use Rattle.circ_statement.proofs.Conditions.{AreRead}
use Rattle.circ_statement.proofs.reading.conditions.Given as goal

abbrev pub invariant-loop-before : goal.invariant-loop-before
invariant-loop-before l = AreRead l.tokens l.fn.span l.rest l.conds.items

abbrev pub decreases-loop-before : goal.decreases-loop-before
decreases-loop-before l = l.rest.to - l.rest.from
