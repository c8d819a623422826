use Rattle.std.proofs.Common.{◌++◌, ◌∙◌, ◌∷◌, refl, ap, sym, arith}
use Rattle.std.proofs.lemmas.Result.{on_ok_weaker}
use Rattle.circ_proof.specs.Plain.{plain_link, plain_links, plain_chain, plain_chains}
use Rattle.circ_proof.specs.Nesting.{link_nesting, chains_nesting}
use Rattle.circ_proof.proofs.Rows.{equation_plain, hypothesis_plain}
use Rattle.circ_replay.proofs.Meeting.{link_at, chain_at}
use Rattle.circ_line.specs.Line.{left_line, right_line, if_line, same_line}
use Rattle.circ_grammar.specs.Grammar.{bare, lines_of, left_lines, right_lines, link_conds, conds_lines, chain_lines}
use Rattle.circ_grammar.specs.FirstBad.{file_text}
use Rattle.circ_file.proofs.Written.{item_written, all_written, then_writes, left_written, right_written, conds_one}
use Rattle.circ_file.proofs.encoding.+link.Goals as goal

-- ---- links

pub put_left_links-put_conds-requires : goal.put_left_links-put_conds-requires
put_left_links-put_conds-requires t c =
    (omega (arith, link_at c.args.links.now c.loop-link.link-index c.link-item.result c.loop-link-test.true c.link-item.is), tt)

pub put_left_links-loop-link-preserved : goal.put_left_links-loop-link-preserved
put_left_links-loop-link-preserved t c =
    let at = c.loop-link in
    let l = plain_link c.link-item.result in
    let mid = c.put_lent_line.new.out.items in
    item_written (λ xs. lines_of left_lines (plain_links xs)) (λ x. left_lines (plain_link x)) c.args.out.now.items c.args.links.now at.link-index
    (λ x xs later. refl) at.out.items c.put_conds.new.out.items c.link-item.result c.loop-link-test.true c.link-item.is at.invariant
    (then_writes at.out.items mid c.put_conds.new.out.items (λ later. left_line (bare l) ∷ later) (link_conds l)
    (left_written at.out.items mid l c.in_ok-put_lent_line.ensures) c.in_ok-put_conds.ensures)

pub put_left_links-returns : goal.put_left_links-returns
put_left_links-returns t c =
    let at = c.loop-link in
    all_written (λ xs. lines_of left_lines (plain_links xs)) (λ x. left_lines (plain_link x)) c.args.out.now.items c.args.links.now at.link-index
    (λ later. refl) at.out.items c.loop-link-test.false at.invariant

pub put_right_links-put_conds-requires : goal.put_right_links-put_conds-requires
put_right_links-put_conds-requires t c =
    (omega (arith, link_at c.args.links.now c.loop-link.link-index c.link-item.result c.loop-link-test.true c.link-item.is), tt)

pub put_right_links-loop-link-preserved : goal.put_right_links-loop-link-preserved
put_right_links-loop-link-preserved t c =
    let at = c.loop-link in
    let l = plain_link c.link-item.result in
    let mid = c.put_lent_line.new.out.items in
    item_written (λ xs. lines_of right_lines (plain_links xs)) (λ x. right_lines (plain_link x)) c.args.out.now.items c.args.links.now at.link-index
    (λ x xs later. refl) at.out.items c.put_conds.new.out.items c.link-item.result c.loop-link-test.true c.link-item.is at.invariant
    (then_writes at.out.items mid c.put_conds.new.out.items (λ later. right_line (bare l) ∷ later) (link_conds l)
    (right_written at.out.items mid l c.in_ok-put_lent_line.ensures) c.in_ok-put_conds.ensures)

pub put_right_links-returns : goal.put_right_links-returns
put_right_links-returns t c =
    let at = c.loop-link in
    all_written (λ xs. lines_of right_lines (plain_links xs)) (λ x. right_lines (plain_link x)) c.args.out.now.items c.args.links.now at.link-index
    (λ later. refl) at.out.items c.loop-link-test.false at.invariant

-- ---- conditions

pub put_conds-put_chains-requires : goal.put_conds-put_chains-requires
put_conds-put_chains-requires t c =
    let x = c.in-Equation in
    let d = ap link_nesting (ap plain_link x.is ∙ equation_plain x.number x.way x.path x.terms x.conds) in
    let same = ap (λ cs. chains_nesting (plain_chains cs)) c.as_slice.ensures.value in
    (omega (arith, d, same), tt)

pub put_conds-put_chains-requires-in-Hypothesis : goal.put_conds-put_chains-requires-in-Hypothesis
put_conds-put_chains-requires-in-Hypothesis t c =
    let x = c.in-Hypothesis in
    let d = ap link_nesting (ap plain_link x.is ∙ hypothesis_plain x.number x.way x.path x.terms x.conds) in
    let same = ap (λ cs. chains_nesting (plain_chains cs)) c.as_slice-in-Hypothesis.ensures.value in
    (omega (arith, d, same), tt)

pub put_conds-returns-in-Equation : goal.put_conds-returns-in-Equation
put_conds-returns-in-Equation t c =
    let x = c.in-Equation in
    let e = ap plain_link x.is ∙ equation_plain x.number x.way x.path x.terms x.conds in
    let old = c.args.out.now.items in
    on_ok_weaker c.put_chains.result
    (λ w later.
    w later
    ∙ ap (λ cs. old ++ file_text (conds_lines (plain_chains cs) later)) c.as_slice.ensures.value
    ∙ ap (λ l. old ++ file_text (link_conds l later)) (sym e))
    c.put_chains.ensures

pub put_conds-returns-in-Hypothesis : goal.put_conds-returns-in-Hypothesis
put_conds-returns-in-Hypothesis t c =
    let x = c.in-Hypothesis in
    let e = ap plain_link x.is ∙ hypothesis_plain x.number x.way x.path x.terms x.conds in
    let old = c.args.out.now.items in
    on_ok_weaker c.put_chains-in-Hypothesis.result
    (λ w later.
    w later
    ∙ ap (λ cs. old ++ file_text (conds_lines (plain_chains cs) later)) c.as_slice-in-Hypothesis.ensures.value
    ∙ ap (λ l. old ++ file_text (link_conds l later)) (sym e))
    c.put_chains-in-Hypothesis.ensures

pub put_chains-put_chain-requires : goal.put_chains-put_chain-requires
put_chains-put_chain-requires t c =
    (omega (arith, chain_at c.args.chains.now c.loop-chain.chain-index c.chain-item.result c.loop-chain-test.true c.chain-item.is), tt)

pub put_chains-loop-chain-preserved : goal.put_chains-loop-chain-preserved
put_chains-loop-chain-preserved t c =
    let at = c.loop-chain in
    let ch = plain_chain c.chain-item.result in
    let a = c.put_line.new.out.items in
    let b = c.put_chain.new.out.items in
    let new = c.put_line-in-loop-chain.new.out.items in
    item_written (λ xs. conds_lines (plain_chains xs)) (λ x k. if_line ∷ chain_lines (plain_chain x) (same_line ∷ k)) c.args.out.now.items c.args.chains.now
    at.chain-index (λ x xs later. conds_one (plain_chain x) (plain_chains xs) later) at.out.items new c.chain-item.result c.loop-chain-test.true
    c.chain-item.is at.invariant
    (then_writes at.out.items a new (λ k. if_line ∷ k) (λ k. chain_lines ch (same_line ∷ k)) c.in_ok-put_line.ensures
    (then_writes a b new (chain_lines ch) (λ k. same_line ∷ k) c.in_ok-put_chain.ensures c.in_ok-put_line-2.ensures))

pub put_chains-returns : goal.put_chains-returns
put_chains-returns t c =
    let at = c.loop-chain in
    all_written (λ xs. conds_lines (plain_chains xs)) (λ x k. if_line ∷ chain_lines (plain_chain x) (same_line ∷ k)) c.args.out.now.items
    c.args.chains.now at.chain-index (λ later. refl) at.out.items c.loop-chain-test.false at.invariant
