use Rattle.circ_check.proofs.Named.{AreConditions}
use Rattle.circ_check.proofs.naming.share_conditions.Given as goal

abbrev pub invariant-loop-name : goal.invariant-loop-name
invariant-loop-name l = AreConditions l.table l.names l.name-index l.conds.items
