use Rattle.circ_chart.specs.Reader.{symbols_of, behind}
use Rattle.circ_chart.proofs.Asking.{no_word_row}
use Rattle.circ_chart.proofs.reader.Reader.is_rest_known_none.Goals as goal

pub returns-in-AtWord : goal.returns-in-AtWord
returns-in-AtWord c =
    let a = c.args in
    let r = a.self.now in
    λ e args h. no_word_row r.grammar.now r.tokens.now c.in-AtWord.field-0 (symbols_of a.part) (behind a.part) a.from a.to (rw (c.deref.ensures.value) at c.in-AtWord.ensures) (c.is_last_known_none.ensures e) args h
