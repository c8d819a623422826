use Rattle.std.proofs.Common.{◌++◌, List, drop, map}
use Rattle.circ_spelling.specs.declared.grammar.Symbol as chart_symbol
use Rattle.circ_mixfix.specs.SymbolLists.{symbol_of}
use Rattle.circ_mixfix.specs.Coding.{AreSymbols, HaveNumbers, AreBelow}
use Rattle.circ_mixfix.proofs.rules.coded.Given as goal

abbrev pub invariant-loop-symbol : goal.invariant-loop-symbol
invariant-loop-symbol l = record {
  made : (cs : List chart_symbol.Symbol) → AreSymbols l.words (map symbol_of (drop l.symbol-index l.symbols)) cs → AreSymbols l.words (map symbol_of l.symbols) (l.out.items ++ cs);
  numbers : HaveNumbers l.words (map symbol_of l.symbols) → HaveNumbers l.words (map symbol_of (drop l.symbol-index l.symbols));
  below : AreBelow (map symbol_of (drop l.symbol-index l.symbols));
}
