use Rattle.circ_tries.proofs.Still.{right_marked, whole_settled}
use Rattle.circ_tries.proofs.store.keep_still.Goals as goal

pub returns-then-has_still_args-clause-right : goal.returns-then-has_still_args-clause-right
returns-then-has_still_args-clause-right c = λ due t h named f.
    let nodes = c.args.store.now.nodes in
    let still = c.args.store.now.still.items in
    let settled = whole_settled due nodes still c.args.number t h (c.has_still_args.ensures c.if-has_still_args.true) named (f c.if-is_still.true) in
    rw c.mark.ensures.nodes (right_marked due nodes still c.mark.new.self.still.items c.args.number t c.mark.result c.mark.ensures.marked c.mark.ensures.err named settled h)
