use Rattle.std.proofs.Common.{◌++◌, ap, sym, refl, ◌∙◌}
use Rattle.circ_proof.specs.Plain.{plain_link, plain_links, plain_chain, plain_chains}
use Rattle.circ_proof.specs.Link.{terms_of, chains_terms}
use Rattle.circ_proof.proofs.Rows.{equation_plain, hypothesis_plain}
use Rattle.circ_entering.specs.Naming.{links_terms, chain_terms}
use Rattle.circ_entering.proofs.Mentions.{walked, walked_all, flat_seen, chains_flat, then_added}
use Rattle.circ_entering.proofs.naming.+add_link.Goals as goal

pub add_links-loop-link-init : goal.add_links-loop-link-init
add_links-loop-link-init t c = ap (λ ns. c.args.lines.now.items ++ ns) (sym (flat_seen plain_link terms_of c.args.links.now))

pub add_links-loop-link-preserved : goal.add_links-loop-link-preserved
add_links-loop-link-preserved t c =
    let at = c.loop-link in
    walked (λ x. terms_of (plain_link x)) c.args.links.now at.link-index c.link-item.result at.lines.items c.add_link.new.lines.items
    (c.args.lines.now.items ++ links_terms (plain_links c.args.links.now)) c.loop-link-test.true c.link-item.is c.in_ok-add_link.ensures at.invariant

pub add_links-returns : goal.add_links-returns
add_links-returns t c =
    let at = c.loop-link in
    walked_all (λ x. terms_of (plain_link x)) c.args.links.now at.link-index at.lines.items
    (c.args.lines.now.items ++ links_terms (plain_links c.args.links.now)) c.loop-link-test.false at.invariant

pub add_chains-loop-chain-init : goal.add_chains-loop-chain-init
add_chains-loop-chain-init t c = ap (λ ns. c.args.lines.now.items ++ ns) (sym (chains_flat c.args.chains.now))

pub add_chains-loop-chain-preserved : goal.add_chains-loop-chain-preserved
add_chains-loop-chain-preserved t c =
    let at = c.loop-chain in
    walked (λ x. chain_terms (plain_chain x)) c.args.chains.now at.chain-index c.chain-item.result at.lines.items c.add_chain.new.lines.items
    (c.args.lines.now.items ++ chains_terms (plain_chains c.args.chains.now)) c.loop-chain-test.true c.chain-item.is c.in_ok-add_chain.ensures at.invariant

pub add_chains-returns : goal.add_chains-returns
add_chains-returns t c =
    let at = c.loop-chain in
    walked_all (λ x. chain_terms (plain_chain x)) c.args.chains.now at.chain-index at.lines.items
    (c.args.lines.now.items ++ chains_terms (plain_chains c.args.chains.now)) c.loop-chain-test.false at.invariant

pub add_chain-returns : goal.add_chain-returns
add_chain-returns t c =
    let x = c.args.chain.now in
    let left = rw c.as_slice.ensures.value at c.in_ok-add_links.ensures in
    let right = rw c.as_slice-2.ensures.value at c.add_links-2.ensures in
    then_added c.add_links-2.result c.args.lines.now.items c.add_links.new.lines.items c.add_links-2.new.lines.items (links_terms (plain_links x.left.items))
    (links_terms (plain_links x.right.items)) (chain_terms (plain_chain x)) left right refl

pub add_link-returns-in_ok-extend_from_slice-in-Equation : goal.add_link-returns-in_ok-extend_from_slice-in-Equation
add_link-returns-in_ok-extend_from_slice-in-Equation t c =
    let x = c.in-Equation in
    let e = ap terms_of (ap plain_link x.is ∙ equation_plain x.number x.way x.path x.terms x.conds) in
    let terms = rw c.as_slice.ensures.value at c.in_ok-extend_from_slice-in-Equation.ensures.items in
    let conds = rw c.as_slice-in-Equation.ensures.value at c.add_chains.ensures in
    then_added c.add_chains.result c.args.lines.now.items c.extend_from_slice.new.self.items c.add_chains.new.lines.items x.terms.items
    (chains_terms (plain_chains x.conds.items)) (terms_of (plain_link c.args.link.now)) terms conds e

pub add_link-returns-in_ok-extend_from_slice-in-Hypothesis : goal.add_link-returns-in_ok-extend_from_slice-in-Hypothesis
add_link-returns-in_ok-extend_from_slice-in-Hypothesis t c =
    let x = c.in-Hypothesis in
    let e = ap terms_of (ap plain_link x.is ∙ hypothesis_plain x.number x.way x.path x.terms x.conds) in
    let terms = rw c.as_slice-in-Hypothesis.ensures.value at c.in_ok-extend_from_slice-in-Hypothesis.ensures.items in
    let conds = rw c.as_slice-in-Hypothesis-2.ensures.value at c.add_chains-in-Hypothesis.ensures in
    then_added c.add_chains-in-Hypothesis.result c.args.lines.now.items c.extend_from_slice-in-Hypothesis.new.self.items c.add_chains-in-Hypothesis.new.lines.items
    x.terms.items (chains_terms (plain_chains x.conds.items)) (terms_of (plain_link c.args.link.now)) terms conds e
