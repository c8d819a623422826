use Rattle.std.proofs.Common.{◌≡◌, ◌++◌, drop, map}
use Rattle.circ_mixfix.specs.Symbols.{inner_symbols}
use Rattle.circ_mixfix.specs.SymbolLists.{symbol_of}
use Rattle.circ_mixfix.proofs.spelling.with_inner.Given as goal

abbrev pub invariant-loop-i : goal.invariant-loop-i
invariant-loop-i l = map symbol_of l.all.items ++ inner_symbols l.prec l.side (drop l.i l.pieces) l.rest ≡ map symbol_of l.fn.out.items ++ inner_symbols l.prec l.side l.pieces l.sorts
