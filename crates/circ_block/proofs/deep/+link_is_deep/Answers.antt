use Rattle.std.proofs.Common.{◌≡◌, ◌+◌, ◌||◌, true, false, drop, ap, sym, ◌∙◌}
use Rattle.circ_conditional_search.specs.Search.{is_hidden_use, link_is_deep, chain_is_deep, chains_are_deep}
use Rattle.circ_proof.specs.Plain.{plain_link, plain_chain, plain_chains}
use Rattle.circ_proof.proofs.Rows.{equation_plain, hypothesis_plain}
use Rattle.circ_block.proofs.DeepChains.{chain_at}
use Rattle.circ_block.proofs.deep.+link_is_deep.Goals as goal

pub chains_are_deep-returns-then-chain_is_deep : goal.chains_are_deep-returns-then-chain_is_deep
chains_are_deep-returns-then-chain_is_deep t c =
    let th = c.args.theory.now in
    let H = c.args.hyps.now in
    let i = c.loop-chain.chain-index in
    let at = chain_at th H c.args.chains.now i c.chain-item.result c.loop-chain-test.true c.chain-item.is in
    let yes : chain_is_deep th H (plain_chain c.chain-item.result) ≡ true = sym c.chain_is_deep.ensures ∙ c.if-chain_is_deep.true in
    sym (ap (λ b. b || chains_are_deep th H (plain_chains (drop (i + 1) c.args.chains.now))) yes) ∙ sym at ∙ c.loop-chain.invariant

pub chains_are_deep-loop-chain-preserved : goal.chains_are_deep-loop-chain-preserved
chains_are_deep-loop-chain-preserved t c =
    let th = c.args.theory.now in
    let H = c.args.hyps.now in
    let i = c.loop-chain.chain-index in
    let at = chain_at th H c.args.chains.now i c.chain-item.result c.loop-chain-test.true c.chain-item.is in
    let no : chain_is_deep th H (plain_chain c.chain-item.result) ≡ false = sym c.chain_is_deep.ensures ∙ c.if-chain_is_deep.false in
    sym (ap (λ b. b || chains_are_deep th H (plain_chains (drop (i + 1) c.args.chains.now))) no) ∙ sym at ∙ c.loop-chain.invariant

pub link_is_deep-returns-in-Equation : goal.link_is_deep-returns-in-Equation
link_is_deep-returns-in-Equation t c =
    let th = c.args.theory.now in
    let H = c.args.hyps.now in
    let x = c.in-Equation in
    let e = ap plain_link x.is ∙ equation_plain x.number x.way x.path x.terms x.conds in
    c.chains_are_deep.ensures ∙ ap (λ cs. chains_are_deep th H (plain_chains cs)) c.as_slice.ensures.value ∙ sym (ap (link_is_deep th H) e)

pub link_is_deep-returns-else-is_hidden_use : goal.link_is_deep-returns-else-is_hidden_use
link_is_deep-returns-else-is_hidden_use t c =
    let th = c.args.theory.now in
    let H = c.args.hyps.now in
    let x = c.in-Hypothesis in
    let e = ap plain_link x.is ∙ hypothesis_plain x.number x.way x.path x.terms x.conds in
    let no : is_hidden_use th H x.number x.path.items ≡ false = sym c.is_hidden_use.ensures ∙ c.if-is_hidden_use.false in
    c.chains_are_deep-in-Hypothesis.ensures ∙ ap (λ cs. chains_are_deep th H (plain_chains cs)) c.as_slice-in-Hypothesis.ensures.value
    ∙ sym (ap (λ b. b || chains_are_deep th H (plain_chains x.conds.items)) no) ∙ sym (ap (link_is_deep th H) e)
