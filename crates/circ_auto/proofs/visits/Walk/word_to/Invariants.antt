use Rattle.std.proofs.Common.{reverse}
use Rattle.circ_auto.proofs.Word.{Rest}
use Rattle.circ_auto.specs.Knows.{graph_of}
use Rattle.circ_auto.proofs.visits.Walk.word_to.Given as goal

abbrev pub invariant-loop-at : goal.invariant-loop-at
invariant-loop-at l = Rest (graph_of l.self) l.self.visits.items l.at (reverse l.word.items) l.fn.goal.point l.fn.goal.depth

abbrev pub decreases-loop-at : goal.decreases-loop-at
decreases-loop-at l = l.at
