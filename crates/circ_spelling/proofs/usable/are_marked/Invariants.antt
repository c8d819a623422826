use Rattle.std.proofs.Common.{◌↔◌, drop}
use Rattle.circ_spelling.specs.Usable.{AreMarked}
use Rattle.circ_spelling.proofs.usable.are_marked.Given as goal

abbrev pub invariant-loop-symbol : goal.invariant-loop-symbol
invariant-loop-symbol l = AreMarked l.marks (drop l.symbol-index l.symbols) ↔ AreMarked l.marks l.symbols
