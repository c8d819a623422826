use Rattle.std.proofs.Common.{ap, sym, ◌∙◌, arith}
use Rattle.circ_proof.specs.Plain.{plain_links}
use Rattle.circ_proof.specs.Link.{resolved_links}
use Rattle.circ_expansion.specs.Expand.{first_links}
use Rattle.circ_uses.specs.Certificates.{lists_in}
use Rattle.circ_uses.proofs.Ends.{none_for, one_for, first_in, first_listed}
use Rattle.circ_uses.proofs.certified.Certificates.list_for.Goals as goal

pub returns-then-derivative-derivative_count : goal.returns-then-derivative-derivative_count
returns-then-derivative-derivative_count c =
    sym (none_for c.args.self.now.theory.now.derivatives c.args.sort (lists_in c.args.self.now.table.now c.args.lists.now) c.args.derivative
    (omega (arith, c.if-derivative-derivative_count.true, c.derivative_count.ensures.count)))

pub returns-in-Some : goal.returns-in-Some
returns-in-Some c =
    let table = c.args.self.now.table.now in
    ap (λ ls. resolved_links table (plain_links ls)) c.as_slice.ensures.value
    ∙ sym (one_for c.args.self.now.theory.now.derivatives c.args.sort (lists_in table c.args.lists.now) c.args.derivative
    (omega (arith, c.if-derivative-derivative_count.false, c.derivative_count.ensures.count))
    ∙ ap first_links (sym c.after.ensures) ∙ first_listed table c.after.result.now ∙ ap (first_in table) (sym c.in-Some.ensures.value))

pub returns-in-None : goal.returns-in-None
returns-in-None c =
    let table = c.args.self.now.table.now in
    sym (one_for c.args.self.now.theory.now.derivatives c.args.sort (lists_in table c.args.lists.now) c.args.derivative
    (omega (arith, c.if-derivative-derivative_count.false, c.derivative_count.ensures.count))
    ∙ ap first_links (sym c.after.ensures) ∙ first_listed table c.after.result.now ∙ ap (first_in table) (sym c.in-None.ensures.value))
