use Rattle.std.proofs.Common.{◌||◌, ap, sym, ◌∙◌}
use Rattle.circ_conditional_search.specs.Search.{why_is_deep, whys_are_deep}
use Rattle.circ_proof.specs.Plain.{plain_why, plain_whys}
use Rattle.circ_proof.proofs.Rows.{split_plain}
use Rattle.circ_block.proofs.deep.+why_is_deep.Goals as goal

pub why_is_deep-returns-else-chain_is_deep : goal.why_is_deep-returns-else-chain_is_deep
why_is_deep-returns-else-chain_is_deep t c =
    let th = c.args.theory.now in
    let H = c.args.hyps.now in
    let e = ap plain_why c.in-Split.is ∙ split_plain c.in-Split.chain c.in-Split.term c.in-Split.whys in
    let no = sym c.chain_is_deep-in-Split.ensures ∙ c.if-chain_is_deep.false in
    c.whys_are_deep.ensures ∙ ap (λ x. whys_are_deep th H (plain_whys x)) c.as_slice.ensures.value
    ∙ sym (ap (λ b. b || whys_are_deep th H (plain_whys c.in-Split.whys.items)) no) ∙ sym (ap (why_is_deep th H) e)
