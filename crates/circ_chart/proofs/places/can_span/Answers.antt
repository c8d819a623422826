use Rattle.std.proofs.Common.{◌≤◌, arith}
use Rattle.std.proofs.lemmas.Bool.Decides.{nat_tests}
use Rattle.circ_chart.proofs.Asking.{words_end}
use Rattle.circ_chart.proofs.Spans.{too_short, no_place}
use Rattle.circ_chart.proofs.places.can_span.Goals as goal

pub returns-then-len-to : goal.returns-then-len-to
returns-then-len-to c = λ e g args words at have h.
    let a = c.args in
    too_short g a.tokens.now a.rule.now.symbols.items a.from a.to args (omega arith) (omega arith) words h

pub returns-in-AtHole : goal.returns-in-AtHole
returns-in-AtHole c = λ e g args words at have h.
    let a = c.args in
    let step = rw (c.deref-2.ensures.value) at c.in-AtHole.ensures in
    let l : a.to ≤ c.next_at.result = grind (arith, nat_tests) in
    no_place g a.tokens.now a.tables.now a.number a.rule.now c.table_at.result.now c.in-AtHole.field-0.sort c.in-AtHole.field-0.below a.from a.to c.next_at.result args words have at
    c.table_at.ensures c.next_at.ensures l step.0 step.1 h

pub returns-then-are_words : goal.returns-then-are_words
returns-then-are_words c = λ e g args words at have h.
    let a = c.args in
    let w = rw (c.deref.ensures.value) at (c.are_words.ensures c.if-are_words.true) in
    let k = words_end g a.tokens.now a.rule.now.symbols.items a.from a.to args w h in
    let n = c.len-2.ensures in
    c.if-len-to-2.true (omega (arith, k, n))
