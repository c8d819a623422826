use Rattle.std.proofs.Common.{◌&&◌, ap, sym, ◌∙◌}
use Rattle.circ_proof.specs.Plain.{plain_why, plain_whys}
use Rattle.circ_proof.proofs.Rows.{split_plain}
use Rattle.circ_conditional_search.specs.Versions.{is_plain_why, are_plain_whys}
use Rattle.circ_search.proofs.versions.+is_plain_why.Goals as goal

pub is_plain_why-returns-else-not-is_plain_chain : goal.is_plain_why-returns-else-not-is_plain_chain
is_plain_why-returns-else-not-is_plain_chain t c =
    let e = ap plain_why c.in-Split.is ∙ split_plain c.in-Split.chain c.in-Split.term c.in-Split.whys in
    let yes = sym c.is_plain_chain-in-Split.ensures ∙ c.if-not-is_plain_chain.false in
    c.are_plain_whys.ensures ∙ ap (λ x. are_plain_whys (plain_whys x)) c.as_slice.ensures.value
    ∙ sym (ap (λ b. b && are_plain_whys (plain_whys c.in-Split.whys.items)) yes) ∙ sym (ap is_plain_why e)
