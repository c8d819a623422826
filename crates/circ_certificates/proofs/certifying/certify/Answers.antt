use Rattle.circ_proof.specs.Link.{resolved_links}
use Rattle.circ_proof.specs.Plain.{plain_links}
use Rattle.circ_steps.specs.Judging.{terms_at}
use Rattle.circ_rules.proofs.Next.{slot_certified}
use Rattle.circ_certificates.proofs.certifying.certify.Goals as goal

pub returns-clause-exact : goal.returns-clause-exact
returns-clause-exact c =
    let r = c.args.rules.now in
    slot_certified r.theory.now r.gamma.now c.args.due.now c.next_slot.new.due c.in-Some.slot
    (resolved_links (terms_at c.args.nodes.now r) (plain_links c.args.links.now)) c.in_ok-holds.holds c.in-Some.ensures
    (rw (c.in-Some.ensures.listed, c.in_ok-start.ensures.place) at c.in_ok-holds.ensures.exact)
