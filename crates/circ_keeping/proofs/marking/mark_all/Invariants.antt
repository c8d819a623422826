use Rattle.circ_keeping.specs.Marks.{SetsMarks}
use Rattle.circ_keeping.proofs.Marked.{AtFirst}
use Rattle.circ_keeping.proofs.marking.mark_all.Given as goal

abbrev pub invariant-loop-number : goal.invariant-loop-number
invariant-loop-number l = SetsMarks (AtFirst l.count l.numbers l.number-index) l.fn.marks l.marks
