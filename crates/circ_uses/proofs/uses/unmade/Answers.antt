use Rattle.std.proofs.Common.{sym, ap, ◌∙◌}
use Rattle.circ_term.specs.Limits.{first_limit}
use Rattle.circ_expansion.proofs.Exceeding.{names_put, nowhere_put}
use Rattle.circ_uses.proofs.uses.unmade.Goals as goal

pub returns-in-Some : goal.returns-in-Some
returns-in-Some c = λ x h. names_put c.args.path.now c.args.whole.now c.in-Some.field-0.now x c.args.fault c.known.ensures (sym c.in-Some.ensures) h

pub returns-in_ok-share-in-None : goal.returns-in_ok-share-in-None
returns-in_ok-share-in-None c = λ x h.
    let e = nowhere_put c.args.path.now c.args.whole.now x (sym c.in-None.ensures) in
    (c.in_ok-share-in-None.ensures.same ∙ sym e, ap first_limit e ∙ c.known.ensures)
