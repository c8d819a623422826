use Rattle.std.proofs.Common.{◌≡◌, ◌++◌, ◌-◌, length}
use Rattle.circ_show.specs.Lines.{cases_line}
use Rattle.circ_show.specs.TheoryText.{by_number}
use Rattle.circ_show.proofs.theories.put_case_lists.Given as goal

abbrev pub invariant-loop-sort : goal.invariant-loop-sort
invariant-loop-sort l =
    l.out.items ++ by_number (cases_line l.theory) l.sort (length l.theory.signature.sorts - l.sort)
    ≡ l.fn.out.items ++ by_number (cases_line l.theory) 0 (length l.theory.signature.sorts)
