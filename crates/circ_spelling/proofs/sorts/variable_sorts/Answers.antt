use Rattle.circ_spelling.proofs.SortLists.{variable_sorts_step}
use Rattle.circ_spelling.proofs.sorts.variable_sorts.Goals as goal

pub loop-variable-preserved : goal.loop-variable-preserved
loop-variable-preserved c =
    let at = c.loop-variable in
    let e = c.in_ok-push_sort.ensures in
    record {
      seen = e.seen;
      variables = variable_sorts_step c.args.variables.now at.variable-index _ at.sorts.items c.push_sort.new.sorts.items c.loop-variable-test.true e.stay e.here at.invariant.variables;
      stay = λ s h. e.stay s (at.invariant.stay s h);
    }
