use Rattle.std.proofs.Common.{drop}
use Rattle.circ_spelling.specs.Steps.{AreWords}
use Rattle.circ_spelling.proofs.steps.are_words.Given as goal

abbrev pub invariant-loop-symbol : goal.invariant-loop-symbol
invariant-loop-symbol l = AreWords (drop l.symbol-index l.symbols) → AreWords l.symbols
