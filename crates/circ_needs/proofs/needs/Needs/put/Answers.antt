use Rattle.circ_needs.specs.declared.needs.Need.{Need}
use Rattle.circ_needs.proofs.Having.{has_inserted}
use Rattle.circ_needs.proofs.needs.Needs.put.Goals as goal

pub returns-clause-put : goal.returns-clause-put
returns-clause-put c = λ G.
    let n : Need = record { op = c.args.op; arg = c.args.arg } in
    rw (← c.self.view_is) (rw c.in_ok-insert.ensures.keys (has_inserted G _ n))

pub returns-clause-kept : goal.returns-clause-kept
returns-clause-kept c = λ G h. ((returns-clause-put c G).0 h).0
