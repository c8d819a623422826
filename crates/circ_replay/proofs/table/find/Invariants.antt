use Rattle.circ_replay.proofs.Keyed.{IsSought, measure}
use Rattle.circ_replay.proofs.table.find.Given as goal

abbrev pub invariant-loop-last : goal.invariant-loop-last
invariant-loop-last l = IsSought l.terms l.chains l.term l.last

abbrev pub decreases-loop-last : goal.decreases-loop-last
decreases-loop-last l = measure l.last
