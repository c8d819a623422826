use Rattle.std.proofs.Common.{length}
use Rattle.circ_show.specs.Lines.{cases_line}
use Rattle.circ_show.proofs.Steps.{number_step}
use Rattle.circ_show.proofs.theories.put_case_lists.Goals as goal

pub loop-sort-preserved : goal.loop-sort-preserved
loop-sort-preserved c =
    number_step (cases_line c.args.theory.now) c.loop-sort.sort (length c.args.theory.now.signature.sorts) _ _ _
    (rw (← c.sort_count-sort-end.ensures.count) c.loop-sort-test.true)
    c.in_ok-put_cases.ensures c.loop-sort.invariant
