use Rattle.circ_chart.specs.Reader.{symbols_of}
use Rattle.circ_chart.proofs.Asking.{no_last_row}
use Rattle.circ_chart.proofs.reader.Reader.is_last_known_none.Goals as goal

pub returns-in-AtLast : goal.returns-in-AtLast
returns-in-AtLast c =
    let a = c.args in
    let r = a.self.now in
    let w = c.in-AtLast.wanted in
    λ e args h. no_last_row r.grammar.now r.tokens.now w.sort w.below (symbols_of a.part) a.from a.to (rw (c.deref.ensures.value) at c.in-AtLast.ensures) (c.is_known_none.ensures e) args h
