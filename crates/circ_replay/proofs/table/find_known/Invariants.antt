use Rattle.std.proofs.Common.{Some}
use Rattle.circ_replay.proofs.Keyed.{IsSought}
use Rattle.circ_replay.proofs.table.find_known.Given as goal

abbrev pub invariant-loop-next : goal.invariant-loop-next
invariant-loop-next l = IsSought l.terms l.chains l.term (Some l.last)

abbrev pub decreases-loop-next : goal.decreases-loop-next
decreases-loop-next l = l.last
