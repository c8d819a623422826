use Rattle.std.proofs.Common.{ap, sym, ◌∙◌, map, arith}
use Rattle.circ_proof.specs.Plain.{chains_of, plain_chain}
use Rattle.circ_proof.specs.Nesting.{link_nesting, chains_nesting}
use Rattle.circ_rewrite.specs.Plain.{plain_trace, plain_passes}
use Rattle.circ_rewrite.specs.Links.{rule_link, link_of, chains_by}
use Rattle.circ_rewrite.proofs.TraceRows.{rewrite_plain}
use Rattle.circ_rewrite.proofs.TraceLinks.{chain_by, chains_nested, chains_are, left_falls, right_falls, rule_nested, all_done}
use Rattle.circ_rewrite.proofs.links.+link.Goals as goal

pub chains-links_of-requires : goal.chains-links_of-requires
chains-links_of-requires t c =
    let d = left_falls c.in-Some.pass _ _ c.args.passes.items c.in-Some.ensures.steps.0 c.loop-pass.invariant.least in
    (omega (arith, d), tt)

pub chains-links_of-requires-in-loop-pass : goal.chains-links_of-requires-in-loop-pass
chains-links_of-requires-in-loop-pass t c =
    let d = right_falls c.in-Some.pass _ _ c.args.passes.items c.in-Some.ensures.steps.0 c.loop-pass.invariant.least in
    (omega (arith, d), tt)

pub chains-returns : goal.chains-returns
chains-returns t c =
    ap chains_of (all_done chains_nested chain_by (map plain_chain c.loop-pass.chains.items) c.loop-pass.pass-iterator c.args.passes.items c.in-None.ensures.steps.0 c.loop-pass.invariant)
    ∙ sym (chains_are c.args.passes.items)

pub link-chains-requires : goal.link-chains-requires
link-chains-requires t c =
    let x = c.in-Rewrite in
    let e = ap plain_trace x.is ∙ rewrite_plain x.name x.path x.terms x.conds in
    let n = ap (λ tr. link_nesting (link_of tr)) e ∙ rule_nested x.name x.path.items x.terms.items (chains_by (plain_passes x.conds.items)) in
    let m = ap chains_nesting (chains_are x.conds.items) in
    (omega (arith, n, m), tt)

pub link-returns-in_ok-conds-in-Rewrite : goal.link-returns-in_ok-conds-in-Rewrite
link-returns-in_ok-conds-in-Rewrite t c =
    let x = c.in-Rewrite in
    let e = ap plain_trace x.is ∙ rewrite_plain x.name x.path x.terms x.conds in
    c.rule_link.ensures ∙ ap (rule_link x.name x.path.items x.terms.items) c.in_ok-conds-in-Rewrite.ensures ∙ sym (ap link_of e)
