use Rattle.std.proofs.Common.{arith}
use Rattle.circ_term.proofs.Limits.{within_limits}
use Rattle.circ_needs.proofs.Observing.{next_found, body_found, on_ok_both}
use Rattle.circ_needs.proofs.observers.look_at.Goals as goal

pub gather-requires : goal.gather-requires
gather-requires c = let deep = (within_limits c.in-Some.body.now c.known.ensures).1 in omega (arith)

pub returns-in-Some : goal.returns-in-Some
returns-in-Some c =
    let ds = c.args.theory.now.derivatives in
    let n = c.args.number in
    let old = c.args.looks.now.entries in
    let new = c.gather.new.looks.entries in
    on_ok_both c.gather.result (λ adds found. next_found ds n old new adds (body_found ds n new c.in-Some.body.now c.in-Some.ensures found)) c.gather.ensures.adds c.gather.ensures.found
