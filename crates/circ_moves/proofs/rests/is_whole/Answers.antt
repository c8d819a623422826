use Rattle.std.proofs.Common.{ap, sym, ◌∙◌}
use Rattle.circ_term.specs.Order.{is_same}
use Rattle.circ_aci.specs.Canonical.{join}
use Rattle.circ_aci.proofs.Finding.{told_same}
use Rattle.circ_moves.proofs.Regroupings.{past_differs}
use Rattle.circ_moves.proofs.rests.is_whole.Goals as goal

pub returns-in-Some : goal.returns-in-Some
returns-in-Some c =
    told_same c.in-Some.whole c.args.term.now c.same.result c.same.ensures
    ∙ ap (λ x. is_same x c.args.term.now) (rw c.in-Some.is at c.in_ok-whole.ensures)

pub returns-in-None : goal.returns-in-None
returns-in-None c =
    sym (past_differs (join c.args.op c.args.sort c.args.entries.items) c.args.term.now (rw c.in-None.is at c.in_ok-whole.ensures) c.known.ensures)
