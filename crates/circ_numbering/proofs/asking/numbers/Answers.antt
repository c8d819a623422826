use Rattle.std.proofs.Common.{◌∙◌, [], ◌∷◌, ap, sym, subst}
use Rattle.circ_plain_search.specs.Numbering.{asked_for}
use Rattle.circ_numbering.specs.Asking.{IsFaultOf}
use Rattle.circ_proof.specs.Table.{number_in}
use Rattle.circ_numbering.proofs.Walks.{walk_fails, walk_on, walk_asked, walk_named, each_alone, as_they_are}
use Rattle.circ_numbering.proofs.asking.numbers.Goals as goal

pub returns-in-Err : goal.returns-in-Err
returns-in-Err c =
    let l = c.loop-term in
    let h = walk_fails (λ t. t ∷ []) (λ n. n) number_in c.args.table.now c.args.terms.now l.term-index l.table l.numbers.items l.invariant c.term-item.result c.loop-term-test.true c.term-item.is c.in-Err.fault c.in-Err.ensures in
    subst (λ ts. IsFaultOf (asked_for c.args.table.now ts) c.in-Err.fault) (each_alone c.args.terms.now) h

pub loop-term-preserved : goal.loop-term-preserved
loop-term-preserved c =
    let l = c.loop-term in
    walk_on (λ t. t ∷ []) (λ n. n) number_in c.args.table.now c.args.terms.now l.term-index l.table l.numbers.items l.invariant c.term-item.result c.loop-term-test.true c.term-item.is c.number.new.table c.push.new.self.items c.in-Ok.number
    c.in-Ok.ensures.0 c.in-Ok.ensures.1 c.in_ok-push-in-Ok.ensures.items

pub returns : goal.returns
returns c =
    let l = c.loop-term in
    let asked = walk_asked (λ t. t ∷ []) (λ n. n) number_in c.args.table.now c.args.terms.now l.term-index l.table l.numbers.items l.invariant c.loop-term-test.false in
    let named = walk_named (λ t. t ∷ []) (λ n. n) number_in c.args.table.now c.args.terms.now l.term-index l.table l.numbers.items l.invariant c.loop-term-test.false in
    (asked ∙ ap (asked_for c.args.table.now) (each_alone c.args.terms.now), λ table a. sym (as_they_are l.numbers.items) ∙ named table a)
