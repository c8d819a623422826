use Rattle.circ_show.specs.SortMarks.{AreSortMarks, unmarked}
use Rattle.circ_show.proofs.observed.observed.Given as goal

abbrev pub invariant-loop : goal.invariant-loop
invariant-loop l = AreSortMarks l.theory l.marks.items

abbrev pub decreases-loop : goal.decreases-loop
decreases-loop l = unmarked l.marks.items
