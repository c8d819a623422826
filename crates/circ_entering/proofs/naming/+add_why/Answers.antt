use Rattle.std.proofs.Common.{◌++◌, ◌∷◌, [], ap, sym, ◌∙◌, append_assoc}
use Rattle.circ_proof.specs.Plain.{plain_why, plain_whys, plain_chain}
use Rattle.circ_proof.proofs.Rows.{split_plain}
use Rattle.circ_entering.specs.Naming.{chain_terms, why_terms, whys_terms}
use Rattle.circ_entering.proofs.Mentions.{walked, walked_all, whys_flat, then_added}
use Rattle.circ_entering.proofs.naming.+add_why.Goals as goal

pub add_whys-loop-why-init : goal.add_whys-loop-why-init
add_whys-loop-why-init t c = ap (λ ns. c.args.lines.now.items ++ ns) (sym (whys_flat c.args.whys.now))

pub add_whys-loop-why-preserved : goal.add_whys-loop-why-preserved
add_whys-loop-why-preserved t c =
    let at = c.loop-why in
    walked (λ x. why_terms (plain_why x)) c.args.whys.now at.why-index c.why-item.result at.lines.items c.add_why.new.lines.items
    (c.args.lines.now.items ++ whys_terms (plain_whys c.args.whys.now)) c.loop-why-test.true c.why-item.is c.in_ok-add_why.ensures at.invariant

pub add_whys-returns : goal.add_whys-returns
add_whys-returns t c =
    let at = c.loop-why in
    walked_all (λ x. why_terms (plain_why x)) c.args.whys.now at.why-index at.lines.items (c.args.lines.now.items ++ whys_terms (plain_whys c.args.whys.now))
    c.loop-why-test.false at.invariant

pub add_why-returns-in_ok-push-in-Split : goal.add_why-returns-in_ok-push-in-Split
add_why-returns-in_ok-push-in-Split t c =
    let x = c.in-Split in
    let e = ap why_terms (ap plain_why x.is ∙ split_plain x.chain x.term x.whys) in
    let chain = chain_terms (plain_chain x.chain) in
    let whys = whys_terms (plain_whys x.whys.items) in
    let front = c.in_ok-push-in-Split.ensures.items ∙ ap (λ ns. ns ++ x.term ∷ []) c.in_ok-add_chain-in-Split.ensures ∙ append_assoc c.args.lines.now.items chain (x.term ∷ []) in
    then_added c.add_whys.result c.args.lines.now.items c.push.new.self.items c.add_whys.new.lines.items (chain ++ x.term ∷ []) whys
    (why_terms (plain_why c.args.why.now)) front (rw c.as_slice.ensures.value at c.add_whys.ensures) (e ∙ sym (append_assoc chain (x.term ∷ []) whys))
