use Rattle.std.proofs.Common.{◌∙◌, ℕ, [], ◌∷◌, ap, sym, subst}
use Rattle.circ_plain_search.specs.Numbering.{asked_for}
use Rattle.circ_numbering.specs.Asking.{IsFaultOf}
use Rattle.std.proofs.Common.{arith}
use Rattle.circ_proof.specs.Plain.{ChainOf, plain_why, plain_whys, map_why, map_chain, Same_why, Split_why, plain_chain}
use Rattle.circ_proof.specs.Table.{number_in}
use Rattle.circ_plain_search.specs.Numbering.{why_terms, chain_terms, whys_terms}
use Rattle.circ_proof.proofs.Rows.{split_plain}
use Rattle.circ_numbering.proofs.Requests.{first_fails, second_fails, both_asked, later_too}
use Rattle.circ_numbering.proofs.Reasons.{depth_of_why, depth_of_whys, depth_in, whys_flat, whys_named}
use Rattle.circ_numbering.proofs.Walks.{walk_fails, walk_on, walk_asked, walk_named}
use Rattle.circ_numbering.proofs.whys.+why.Goals as goal

pub whys-returns-in-Err : goal.whys-returns-in-Err
whys-returns-in-Err t c =
    let l = c.loop-one in
    let h = walk_fails (λ x. why_terms (plain_why x)) plain_why (λ table x. map_why (number_in table) (plain_why x)) c.args.table.now c.args.recorded.now l.one-index l.table l.whys.items l.invariant c.one-item.result c.loop-one-test.true c.one-item.is c.in-Err.fault c.in-Err.ensures in
    subst (λ ts. IsFaultOf (asked_for c.args.table.now ts) c.in-Err.fault) (sym (whys_flat c.args.recorded.now)) h

pub whys-loop-one-preserved : goal.whys-loop-one-preserved
whys-loop-one-preserved t c =
    let l = c.loop-one in
    walk_on (λ x. why_terms (plain_why x)) plain_why (λ table x. map_why (number_in table) (plain_why x)) c.args.table.now c.args.recorded.now l.one-index l.table l.whys.items l.invariant c.one-item.result c.loop-one-test.true c.one-item.is c.why.new.table c.push.new.self.items c.in-Ok.why
    c.in-Ok.ensures.0 c.in-Ok.ensures.1 c.in_ok-push-in-Ok.ensures.items

pub whys-returns : goal.whys-returns
whys-returns t c =
    let l = c.loop-one in
    let asked = walk_asked (λ x. why_terms (plain_why x)) plain_why (λ table x. map_why (number_in table) (plain_why x)) c.args.table.now c.args.recorded.now l.one-index l.table l.whys.items l.invariant c.loop-one-test.false in
    let named = walk_named (λ x. why_terms (plain_why x)) plain_why (λ table x. map_why (number_in table) (plain_why x)) c.args.table.now c.args.recorded.now l.one-index l.table l.whys.items l.invariant c.loop-one-test.false in
    (asked ∙ ap (asked_for c.args.table.now) (sym (whys_flat c.args.recorded.now)), λ table a. whys_named (number_in table) l.whys.items c.args.recorded.now (named table a))

pub whys-why-requires : goal.whys-why-requires
whys-why-requires t c =
    let d = depth_in c.args.recorded.now c.loop-one.one-index c.one-item.result c.loop-one-test.true c.one-item.is in
    omega (arith, d)

pub why-whys-requires : goal.why-whys-requires
why-whys-requires t c =
    let e = ap plain_why c.in-Split.is ∙ split_plain c.in-Split.recorded c.in-Split.term c.in-Split.cases in
    let d = ap depth_of_why e in
    let same = ap (λ ws. depth_of_whys (plain_whys ws)) c.as_slice.ensures.value in
    omega (arith, d, same)

pub why-returns-in-Ok : goal.why-returns-in-Ok
why-returns-in-Ok t c = rw c.in-Same.is (c.in-Ok.ensures.0, λ table a. ap Same_why (c.in-Ok.ensures.1 table a))

pub why-returns-in-Err-chain : goal.why-returns-in-Err-chain
why-returns-in-Err-chain t c =
    let e = (ap plain_why c.in-Split.is ∙ split_plain c.in-Split.recorded c.in-Split.term c.in-Split.cases) in
    rw e (first_fails c.args.table.now (chain_terms (plain_chain c.in-Split.recorded)) (c.in-Split.term ∷ whys_terms (plain_whys c.in-Split.cases.items))
    c.in-Err-chain.fault c.in-Err-chain.ensures)

pub why-returns-in-Err-number : goal.why-returns-in-Err-number
why-returns-in-Err-number t c =
    let e = (ap plain_why c.in-Split.is ∙ split_plain c.in-Split.recorded c.in-Split.term c.in-Split.cases) in
    rw e (second_fails c.args.table.now c.chain-in-Split.new.table (chain_terms (plain_chain c.in-Split.recorded))
    (c.in-Split.term ∷ whys_terms (plain_whys c.in-Split.cases.items)) c.in-Err-number.fault c.in-Ok-chain.ensures.0
    (first_fails c.chain-in-Split.new.table (c.in-Split.term ∷ []) (whys_terms (plain_whys c.in-Split.cases.items)) c.in-Err-number.fault c.in-Err-number.ensures))

pub why-returns-in-Err-whys : goal.why-returns-in-Err-whys
why-returns-in-Err-whys t c =
    let e = (ap plain_why c.in-Split.is ∙ split_plain c.in-Split.recorded c.in-Split.term c.in-Split.cases) in
    let ws = whys_terms (plain_whys c.in-Split.cases.items) in
    rw e (second_fails c.args.table.now c.chain-in-Split.new.table (chain_terms (plain_chain c.in-Split.recorded)) (c.in-Split.term ∷ ws) c.in-Err-whys.fault c.in-Ok-chain.ensures.0
    (second_fails c.chain-in-Split.new.table c.number.new.table (c.in-Split.term ∷ []) ws c.in-Err-whys.fault c.in-Ok-number.ensures.0 (rw c.as_slice.ensures.value at c.in-Err-whys.ensures)))

pub why-returns-in-Ok-whys : goal.why-returns-in-Ok-whys
why-returns-in-Ok-whys t c =
    let e = ap plain_why c.in-Split.is ∙ split_plain c.in-Split.recorded c.in-Split.term c.in-Split.cases in
    let ws = plain_whys c.in-Split.cases.items in
    let whys = rw c.as_slice.ensures.value at c.in-Ok-whys.ensures in
    let chain = c.in-Ok-chain.chain in
    let term = c.in-Ok-number.term in
    let asked = both_asked c.args.table.now c.chain-in-Split.new.table c.whys.new.table (chain_terms (plain_chain c.in-Split.recorded)) (c.in-Split.term ∷ whys_terms ws)
    c.in-Ok-chain.ensures.0 (both_asked c.chain-in-Split.new.table c.number.new.table c.whys.new.table (c.in-Split.term ∷ []) (whys_terms ws) c.in-Ok-number.ensures.0 whys.0) in
    rw e (
      asked,
      λ table a.
          let b = later_too c.number.new.table c.whys.new.table (whys_terms ws) table whys.0 a in
          let d = later_too c.chain-in-Split.new.table c.number.new.table (c.in-Split.term ∷ []) table c.in-Ok-number.ensures.0 b in
          let here : ChainOf ℕ = map_chain (number_in table) (plain_chain c.in-Split.recorded) in
          split_plain chain term c.in-Ok-whys.whys
          ∙ ap (λ x. Split_why x term (plain_whys c.in-Ok-whys.whys.items)) (c.in-Ok-chain.ensures.1 table d)
          ∙ ap (λ n. Split_why here n (plain_whys c.in-Ok-whys.whys.items)) (c.in-Ok-number.ensures.1 table b)
          ∙ ap (Split_why here (number_in table c.in-Split.term)) (whys.1 table a),
    )
