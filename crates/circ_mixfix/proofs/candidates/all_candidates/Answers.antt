use Rattle.std.proofs.Common.{arith}
use Rattle.circ_mixfix.proofs.LeastNumbers.{all_sorts_candidates}
use Rattle.circ_mixfix.proofs.candidates.all_candidates.Goals as goal

pub returns-clause-all : goal.returns-clause-all
returns-clause-all c =
    all_sorts_candidates c.args.theory.now.signature c.args.words.now c.args.most c.new.result.items c.in_ok-sorts.sorts.items c.in_ok-ops.ops.items c.known.ensures.operators
    (λ s l. c.in_ok-sorts.ensures s (let e = c.sort_count.ensures.count in omega arith)) (rw c.as_slice.ensures.value at c.in_ok-ops.ensures)
