use Rattle.std.proofs.Common.{length}
use Rattle.circ_show.specs.Lines.{unobserved_line}
use Rattle.circ_show.specs.SortMarks.{is_unmarked}
use Rattle.circ_show.specs.TheoryText.{text_where}
use Rattle.circ_show.proofs.Steps.{number_step}
use Rattle.circ_show.proofs.theories.put_all_unmarked.Goals as goal

pub loop-sort-preserved : goal.loop-sort-preserved
loop-sort-preserved c =
    number_step (text_where (is_unmarked c.args.marks.now) (unobserved_line c.args.theory.now.signature)) c.loop-sort.sort
    (length c.args.theory.now.signature.sorts) _ _ _
    (rw (← c.sort_count-sort-end.ensures.count) c.loop-sort-test.true) c.in_ok-put_unmarked.ensures c.loop-sort.invariant
