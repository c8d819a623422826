use Rattle.std.proofs.Common.{drop}
use Rattle.circ_term.specs.Tree.{Tree}
use Rattle.circ_chart.specs.Reader.{RulesOver}
use Rattle.circ_chart.specs.Ways.{AnyByRule}
use Rattle.circ_chart.proofs.reader.Reader.spans_none.Given as goal

abbrev pub invariant-loop-number : goal.invariant-loop-number
invariant-loop-number l =
    (t : Tree) → RulesOver l.self l.wanted l.from l.to t → AnyByRule l.self.grammar.now l.self.tokens.now l.wanted.below l.wanted.sort l.from l.to (drop l.number l.self.grammar.now.rules.items) t
