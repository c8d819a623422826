use Rattle.std.proofs.Common.{drop}
use Rattle.circ_chart.specs.Levels.{AreAtMost}
use Rattle.circ_chart.proofs.levels.are_at_most.Given as goal

abbrev pub invariant-loop-symbol : goal.invariant-loop-symbol
invariant-loop-symbol l = AreAtMost l.tokens l.levels l.prec (drop l.symbol-index l.symbols) → AreAtMost l.tokens l.levels l.prec l.symbols
