use Rattle.circ_mixfix.proofs.LeastNumbers.{sort_more}
use Rattle.circ_mixfix.proofs.candidates.all_sorts.Goals as goal

pub loop-sort-preserved : goal.loop-sort-preserved
loop-sort-preserved c = sort_more c.loop-sort.sorts.items c.push.new.self.items c.loop-sort.sort c.in_ok-push.ensures.items c.loop-sort.invariant
