use Rattle.std.proofs.Common.{sym}
use Rattle.circ_mixfix.specs.Answers.{lists_in}
use Rattle.circ_mixfix.specs.Found.{AreTwosSorted, AreTwosInOrder}
use Rattle.circ_mixfix.specs.Readings.{ReadsTwos}
use Rattle.circ_mixfix.specs.Variables.{vars_in}
use Rattle.circ_mixfix.proofs.Telling.{told, if_answered}
use Rattle.circ_mixfix.proofs.Twos.{twos_in_order}
use Rattle.circ_mixfix.proofs.WellSorted.{twos_sorted}
use Rattle.circ_mixfix.proofs.parse.list_in.Goals as goal

pub returns-clause-reading : goal.returns-clause-reading
returns-clause-reading c =
    rw (sym c.in_default.ensures) (told c.in_ok-found.found c.answer.result (ReadsTwos c.args.scope.now.theory.now.signature (vars_in c.args.scope.now) (lists_in c.args.tokens.now c.args.spans.now))
    c.in_ok-found.ensures c.answer.ensures)

pub returns-clause-sorted : goal.returns-clause-sorted
returns-clause-sorted c = λ h.
    let th = c.args.scope.now.theory.now in
    let vars = vars_in c.args.scope.now in
    let lists = lists_in c.args.tokens.now c.args.spans.now in
    if_answered c.in_ok-found.found c.answer.result (AreTwosSorted th.signature) c.answer.ensures
    (λ ts i. twos_sorted th vars lists ts c.known.ensures h (c.in_ok-found.ensures.enough.sound ts i))

pub returns-clause-in_order : goal.returns-clause-in_order
returns-clause-in_order c =
    let sig = c.args.scope.now.theory.now.signature in
    let vars = vars_in c.args.scope.now in
    let lists = lists_in c.args.tokens.now c.args.spans.now in
    if_answered c.in_ok-found.found c.answer.result AreTwosInOrder c.answer.ensures
    (λ ts i. twos_in_order sig vars lists ts (c.in_ok-found.ensures.enough.sound ts i))
