use Rattle.std.proofs.Common.{Some, ap, ◌∙◌}
use Rattle.circ_chart.specs.declared.memo.Question.TheVariants.{OfTerm}
use Rattle.circ_chart.specs.declared.few.Few.TheVariants.{Empty}
use Rattle.circ_spelling.specs.Reads.{Reads}
use Rattle.circ_spelling.proofs.May.{may_reads}
use Rattle.circ_chart.proofs.Loose.{nothing_below}
use Rattle.circ_chart.proofs.Memory.{listed_answer}
use Rattle.circ_chart.proofs.Asking.{none_of}
use Rattle.circ_chart.proofs.reader.Reader.is_known_none.Goals as goal

pub returns-then-not-may_spell : goal.returns-then-not-may_spell
returns-then-not-may_spell c =
    let a = c.args in
    let r = a.self.now in
    λ e x h. c.may_spell.ensures c.if-not-may_spell.true (may_reads r.grammar.now r.tokens.now r.starts.now a.wanted.below a.wanted.sort a.from a.to x h c.requires.ready.starts c.requires.ready.words)

pub returns-in-Some : goal.returns-in-Some
returns-in-Some c =
    let a = c.args in
    let r = a.self.now in
    λ e x h. none_of (Reads r.grammar.now r.tokens.now a.wanted.below a.wanted.sort a.from a.to)
    (listed_answer r.grammar.now r.tokens.now a.memo.now.entries.items (OfTerm a.wanted.sort a.wanted.below) a.from a.to Empty c.requires.ready.memo
    (c.known_none.ensures (c.in-Some.is ∙ ap Some e))).enough x h

pub returns-then-is_above : goal.returns-then-is_above
returns-then-is_above c =
    let a = c.args in
    let r = a.self.now in
    λ e x h. nothing_below r.grammar.now r.tokens.now r.levels.now a.wanted.below a.wanted.sort a.from a.to x c.requires.ready.words c.requires.ready.levels
    (c.is_above.ensures c.if-is_above.true) h
