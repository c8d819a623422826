use Rattle.std.proofs.Common.{sym}
use Rattle.circ_show.specs.Lines.{sort_line}
use Rattle.circ_show.proofs.Steps.{list_step}
use Rattle.circ_show.proofs.theories.put_sorts.Goals as goal

pub loop-n-preserved : goal.loop-n-preserved
loop-n-preserved c =
    list_step sort_line c.args.theory.now.signature.sorts c.loop-n.n c.in-Some.name.now _ _ _ (sym c.in-Some.ensures)
    c.in_ok-put_sort.ensures c.loop-n.invariant
