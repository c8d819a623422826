use Rattle.std.proofs.Common.{◌∙◌, ℕ, List, refl, ap, sym, subst, arith}
use Rattle.circ_plain_search.specs.Numbering.{asked_for, links_terms, chain_terms, numbered_links}
use Rattle.circ_numbering.specs.Asking.{IsFaultOf}
use Rattle.circ_proof.specs.Plain.{LinkOf, ChainOf, Equation_link, Hypothesis_link, Assumption_link, plain_link, plain_links, plain_chain, plain_chains, map_link, map_chain}
use Rattle.circ_proof.specs.Link.{terms_of, chains_terms}
use Rattle.circ_proof.specs.Nesting.{link_nesting, chains_nesting}
use Rattle.circ_proof.specs.Table.{number_in}
use Rattle.circ_proof.proofs.Rows.{equation_plain, hypothesis_plain}
use Rattle.circ_numbering.proofs.Requests.{first_fails, second_fails, both_asked, later_too, parts_asked, parts_made, nothing_asked}
use Rattle.circ_numbering.proofs.Walks.{walk_fails, walk_on, walk_asked, walk_named, flat_seen, map_seen}
use Rattle.circ_numbering.proofs.Chains.{link_in, chain_in, chains_flat, chains_named}
use Rattle.circ_numbering.proofs.asking.+link.Goals as goal

pub links-returns-in-Err : goal.links-returns-in-Err
links-returns-in-Err t c =
    let l = c.loop-one in
    let h = walk_fails (λ x. terms_of (plain_link x)) plain_link (λ table x. map_link (number_in table) (plain_link x)) c.args.table.now c.args.recorded.now l.one-index l.table l.links.items l.invariant c.one-item.result c.loop-one-test.true c.one-item.is c.in-Err.fault c.in-Err.ensures in
    subst (λ ts. IsFaultOf (asked_for c.args.table.now ts) c.in-Err.fault) (sym (flat_seen plain_link terms_of c.args.recorded.now)) h

pub links-loop-one-preserved : goal.links-loop-one-preserved
links-loop-one-preserved t c =
    let l = c.loop-one in
    walk_on (λ x. terms_of (plain_link x)) plain_link (λ table x. map_link (number_in table) (plain_link x)) c.args.table.now c.args.recorded.now l.one-index l.table l.links.items l.invariant c.one-item.result c.loop-one-test.true c.one-item.is c.link.new.table c.push.new.self.items c.in-Ok.link
    c.in-Ok.ensures.0 c.in-Ok.ensures.1 c.in_ok-push-in-Ok.ensures.items

pub links-returns : goal.links-returns
links-returns t c =
    let l = c.loop-one in
    let asked = walk_asked (λ x. terms_of (plain_link x)) plain_link (λ table x. map_link (number_in table) (plain_link x)) c.args.table.now c.args.recorded.now l.one-index l.table l.links.items l.invariant c.loop-one-test.false in
    let named = walk_named (λ x. terms_of (plain_link x)) plain_link (λ table x. map_link (number_in table) (plain_link x)) c.args.table.now c.args.recorded.now l.one-index l.table l.links.items l.invariant c.loop-one-test.false in
    (asked ∙ ap (asked_for c.args.table.now) (sym (flat_seen plain_link terms_of c.args.recorded.now)), λ table a. named table a ∙ sym (map_seen plain_link (map_link (number_in table)) c.args.recorded.now))

pub chains-returns-in-Err : goal.chains-returns-in-Err
chains-returns-in-Err t c =
    let l = c.loop-one in
    let h = walk_fails (λ x. chain_terms (plain_chain x)) plain_chain (λ table x. map_chain (number_in table) (plain_chain x)) c.args.table.now c.args.recorded.now l.one-index l.table l.chains.items l.invariant c.one-item.result c.loop-one-test.true c.one-item.is c.in-Err.fault c.in-Err.ensures in
    subst (λ ts. IsFaultOf (asked_for c.args.table.now ts) c.in-Err.fault) (sym (chains_flat c.args.recorded.now)) h

pub chains-loop-one-preserved : goal.chains-loop-one-preserved
chains-loop-one-preserved t c =
    let l = c.loop-one in
    walk_on (λ x. chain_terms (plain_chain x)) plain_chain (λ table x. map_chain (number_in table) (plain_chain x)) c.args.table.now c.args.recorded.now l.one-index l.table l.chains.items l.invariant c.one-item.result c.loop-one-test.true c.one-item.is c.chain.new.table c.push.new.self.items c.in-Ok.chain
    c.in-Ok.ensures.0 c.in-Ok.ensures.1 c.in_ok-push-in-Ok.ensures.items

pub chains-returns : goal.chains-returns
chains-returns t c =
    let l = c.loop-one in
    let asked = walk_asked (λ x. chain_terms (plain_chain x)) plain_chain (λ table x. map_chain (number_in table) (plain_chain x)) c.args.table.now c.args.recorded.now l.one-index l.table l.chains.items l.invariant c.loop-one-test.false in
    let named = walk_named (λ x. chain_terms (plain_chain x)) plain_chain (λ table x. map_chain (number_in table) (plain_chain x)) c.args.table.now c.args.recorded.now l.one-index l.table l.chains.items l.invariant c.loop-one-test.false in
    (asked ∙ ap (asked_for c.args.table.now) (sym (chains_flat c.args.recorded.now)), λ table a. chains_named (number_in table) l.chains.items c.args.recorded.now (named table a))

pub chain-returns-in-Err : goal.chain-returns-in-Err
chain-returns-in-Err t c =
    let r = c.args.recorded.now in
    first_fails c.args.table.now (links_terms (plain_links r.left.items)) (links_terms (plain_links r.right.items)) c.in-Err.fault
    (rw c.as_slice.ensures.value at c.in-Err.ensures)

pub chain-returns-in-Err-links : goal.chain-returns-in-Err-links
chain-returns-in-Err-links t c =
    let r = c.args.recorded.now in
    second_fails c.args.table.now c.links.new.table (links_terms (plain_links r.left.items)) (links_terms (plain_links r.right.items)) c.in-Err-links.fault
    (rw c.as_slice.ensures.value at c.in-Ok.ensures.0) (rw c.as_slice-2.ensures.value at c.in-Err-links.ensures)

pub chain-returns-in-Ok-links : goal.chain-returns-in-Ok-links
chain-returns-in-Ok-links t c =
    let r = c.args.recorded.now in
    let left = rw c.as_slice.ensures.value at c.in-Ok.ensures in
    let right = rw c.as_slice-2.ensures.value at c.in-Ok-links.ensures in
    let C : List (LinkOf ℕ) → List (LinkOf ℕ) → ChainOf ℕ = λ a b. record { left = a; right = b } in (
      both_asked c.args.table.now c.links.new.table c.links-2.new.table (links_terms (plain_links r.left.items)) (links_terms (plain_links r.right.items))
          left.0 right.0,
      λ table a.
          ap (λ x. C x (plain_links c.in-Ok-links.right.items)) (left.1 table (later_too c.links.new.table c.links-2.new.table (links_terms (plain_links r.right.items)) table right.0 a))
          ∙ ap (C (numbered_links table (plain_links r.left.items))) (right.1 table a),
    )

pub numbered_parts-returns-in-Err : goal.numbered_parts-returns-in-Err
numbered_parts-returns-in-Err t c =
    first_fails c.args.table.now c.args.terms.now (chains_terms (plain_chains c.args.conds.now)) c.in-Err.fault c.in-Err.ensures

pub numbered_parts-returns-in-Err-chains : goal.numbered_parts-returns-in-Err-chains
numbered_parts-returns-in-Err-chains t c =
    second_fails c.args.table.now c.numbers.new.table c.args.terms.now (chains_terms (plain_chains c.args.conds.now)) c.in-Err-chains.fault
    c.in-Ok.ensures.0 c.in-Err-chains.ensures

pub numbered_parts-returns-in-Ok-chains : goal.numbered_parts-returns-in-Ok-chains
numbered_parts-returns-in-Ok-chains t c =
    parts_made c.args.path.now.items c.args.table.now c.numbers.new.table c.chains.new.table c.args.terms.now (plain_chains c.args.conds.now) c.in-Ok.terms.items
    c.in-Ok-chains.conds.items c.make_parts.result c.in-Ok.ensures.0 c.in-Ok.ensures.1 c.in-Ok-chains.ensures.0 c.in-Ok-chains.ensures.1
    c.make_parts.ensures.path c.make_parts.ensures.terms c.make_parts.ensures.conds c.make_parts.ensures.err

pub links-link-requires : goal.links-link-requires
links-link-requires t c =
    let d = link_in c.args.recorded.now c.loop-one.one-index c.one-item.result c.loop-one-test.true c.one-item.is in omega (arith, d)

pub chains-chain-requires : goal.chains-chain-requires
chains-chain-requires t c =
    let d = chain_in c.args.recorded.now c.loop-one.one-index c.one-item.result c.loop-one-test.true c.one-item.is in omega (arith, d)

pub link-numbered_parts-parts-requires : goal.link-numbered_parts-parts-requires
link-numbered_parts-parts-requires t c =
    let x = c.in-Equation in
    let e = ap link_nesting (ap plain_link x.is ∙ equation_plain x.number x.way x.path x.terms x.conds) in
    let same = ap (λ cs. chains_nesting (plain_chains cs)) c.as_slice-in-Equation.ensures.value in
    omega (arith, e, same)

pub link-numbered_parts-parts-requires-in-Hypothesis : goal.link-numbered_parts-parts-requires-in-Hypothesis
link-numbered_parts-parts-requires-in-Hypothesis t c =
    let x = c.in-Hypothesis in
    let e = ap link_nesting (ap plain_link x.is ∙ hypothesis_plain x.number x.way x.path x.terms x.conds) in
    let same = ap (λ cs. chains_nesting (plain_chains cs)) c.as_slice-in-Hypothesis-2.ensures.value in
    omega (arith, e, same)

pub link-returns-in-Equation : goal.link-returns-in-Equation
link-returns-in-Equation t c =
    let x = c.in-Equation in
    let e = ap plain_link x.is ∙ equation_plain x.number x.way x.path x.terms x.conds in
    rw e (parts_asked (Equation_link x.number x.way) x.path.items c.args.table.now c.numbered_parts-parts.new.table x.terms.items (plain_chains x.conds.items)
    c.numbered_parts-parts.result c.equation_link.result (rw (c.as_slice.ensures.value, c.as_slice-in-Equation.ensures.value) at c.numbered_parts-parts.ensures)
    c.equation_link.ensures)

pub link-returns-in-Hypothesis : goal.link-returns-in-Hypothesis
link-returns-in-Hypothesis t c =
    let x = c.in-Hypothesis in
    let e = ap plain_link x.is ∙ hypothesis_plain x.number x.way x.path x.terms x.conds in
    rw e (parts_asked (Hypothesis_link x.number x.way) x.path.items c.args.table.now c.numbered_parts-parts-in-Hypothesis.new.table x.terms.items (plain_chains x.conds.items)
    c.numbered_parts-parts-in-Hypothesis.result c.hypothesis_link.result
    (rw (c.as_slice-in-Hypothesis.ensures.value, c.as_slice-in-Hypothesis-2.ensures.value) at c.numbered_parts-parts-in-Hypothesis.ensures)
    c.hypothesis_link.ensures)

pub link-returns-in-Assumption : goal.link-returns-in-Assumption
link-returns-in-Assumption t c =
    let x = c.in-Assumption in
    rw x.is (nothing_asked (Assumption_link x.number x.way x.path.items) c.args.table.now c.args.table.now c.assumption_link.result refl c.assumption_link.ensures.link
    c.assumption_link.ensures.err)
