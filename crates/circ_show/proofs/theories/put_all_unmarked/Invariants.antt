use Rattle.std.proofs.Common.{◌≡◌, ◌++◌, ◌-◌, length}
use Rattle.circ_show.specs.Lines.{unobserved_line}
use Rattle.circ_show.specs.SortMarks.{is_unmarked}
use Rattle.circ_show.specs.TheoryText.{by_number, text_where, unobserved_lines}
use Rattle.circ_show.proofs.theories.put_all_unmarked.Given as goal

abbrev pub invariant-loop-sort : goal.invariant-loop-sort
invariant-loop-sort l =
    l.out.items ++ by_number (text_where (is_unmarked l.marks) (unobserved_line l.theory.signature)) l.sort (length l.theory.signature.sorts - l.sort)
    ≡ l.fn.out.items ++ unobserved_lines l.theory (is_unmarked l.marks)
