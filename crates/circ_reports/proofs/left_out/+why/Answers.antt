use Rattle.std.proofs.Common.{◌||◌, ap, ◌∙◌, sym, arith}
use Rattle.circ_proof.specs.Plain.{plain_why, plain_whys}
use Rattle.circ_proof.proofs.Rows.{split_plain}
use Rattle.circ_replay.proofs.Reasons.{why_depth, whys_depth, depth_at}
use Rattle.circ_reports.specs.PlainProof.{why_has_if, whys_have_if}
use Rattle.circ_reports.proofs.left_out.+why.Goals as goal

pub why_has_if-whys_have_if-requires : goal.why_has_if-whys_have_if-requires
why_has_if-whys_have_if-requires t c =
    let e = ap plain_why c.in-Split.is ∙ split_plain c.in-Split.chain c.in-Split.term c.in-Split.whys in
    let d = ap why_depth e in
    let same = ap (λ ws. whys_depth (plain_whys ws)) c.as_slice.ensures.value in
    omega arith

pub whys_have_if-why_has_if-requires : goal.whys_have_if-why_has_if-requires
whys_have_if-why_has_if-requires t c =
    let at = c.loop-why in
    let d = depth_at c.args.whys.now at.why-index c.why-item.result c.loop-why-test.true c.why-item.is in
    omega (arith, d)

pub why_has_if-returns-else-chain_has_if : goal.why_has_if-returns-else-chain_has_if
why_has_if-returns-else-chain_has_if t c =
    let e = ap plain_why c.in-Split.is ∙ split_plain c.in-Split.chain c.in-Split.term c.in-Split.whys in
    c.whys_have_if.ensures ∙ ap (λ ws. whys_have_if (plain_whys ws)) c.as_slice.ensures.value
    ∙ ap (λ b. b || whys_have_if (plain_whys c.in-Split.whys.items)) c.if-chain_has_if.ensures ∙ sym (ap why_has_if e)
