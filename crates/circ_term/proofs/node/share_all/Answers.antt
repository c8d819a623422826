use Rattle.std.proofs.Common.{◌≡◌, ◌+◌, ◌++◌, ◌∷◌, [], suc, take, arith, sym, ◌∙◌, ap}
use Rattle.std.proofs.Math.Seq.{take-suc}
use Rattle.circ_term.proofs.node.share_all.Goals as goal

pub loop-term-preserved : goal.loop-term-preserved
loop-term-preserved c =
    let ts = c.args.terms.now in
    let i = c.loop-term.term-index in
    let t = c.term-item.result in
    let one : suc i ≡ i + 1 = omega arith in
    let next : take (i + 1) ts ≡ take i ts ++ t ∷ [] = rw (← one) (take-suc ts i t c.loop-term-test.true ∙ ap (λ u. take i ts ++ u ∷ []) (sym c.term-item.is)) in
    c.in_ok-share_to.ensures.put ∙ ap (λ us. us ++ t ∷ []) c.loop-term.invariant ∙ sym next
