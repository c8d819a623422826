use Rattle.std.proofs.Common.{length, refl}
use Rattle.std.proofs.lemmas.Option.{slice_get_read}
use Rattle.circ_chart.proofs.Glancing.{rule_on}
use Rattle.circ_chart.proofs.reader.Reader.spans_none.Goals as goal

pub loop-number-preserved : goal.loop-number-preserved
loop-number-preserved c = λ t h.
    let a = c.args in
    let r = a.self.now in
    let rs = r.grammar.now.rules.items in
    let n = c.loop-number.number in
    let rule = c.rule-item.result in
    let l = rw (c.deref-rule-items.ensures.value) at c.loop-number-test.true in
    let e = rw (c.deref-rule-items.ensures.value) at c.rule-item.is in
    rule_on r.grammar.now r.tokens.now a.wanted.below a.wanted.sort a.from a.to rs n rule l e
    (λ x k. c.can_span.ensures c.if-can_span.false r.grammar.now k.rows.args c.requires.words (slice_get_read rs (length rs) n rule refl l e) c.requires.tables k.rows.row) t
    (c.loop-number.invariant t h)
