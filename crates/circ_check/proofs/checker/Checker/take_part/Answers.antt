use Rattle.circ_check.proofs.Watching.{on_ok}
use Rattle.circ_check.proofs.checker.Checker.take_part.Goals as goal

pub returns-in-Goals-clause-took : goal.returns-in-Goals-clause-took
returns-in-Goals-clause-took c =
    let took = rw c.as_slice-in-Goals.ensures.value at c.begin_block.ensures.took in
    rw c.in-Goals.is (on_ok c.begin_block.result (λ f. f c.in-Goals.goals.items (rw c.in-Goals.is at c.requires.ready)) took)
